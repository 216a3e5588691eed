use Rattle.std.proofs.Common.{◌≡◌, length}
use Rattle.ts_search.specs.Shown.{AreHeld}
use Rattle.ts_search.proofs.Witnessed.{InsideUpTo}
use Rattle.ts_search.proofs.witnesses.Witnesses.bring.Given as goal

-- the series of the witnesses before place i are in the box
abbrev pub invariant-loop-i : goal.invariant-loop-i
invariant-loop-i l = record {
  count : length l.self.each.items ≡ length l.fn.self.each.items;
  held : AreHeld l.problem l.self;
  inside : InsideUpTo l.problem l.self l.cells.present l.i;
}
