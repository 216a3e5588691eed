use Rattle.std.proofs.Common.{◌≡◌}
use Rattle.ts_search.specs.Shown.{AreMet, AreShown}
use Rattle.ts_search.proofs.Marks.{SparedBelow}
use Rattle.ts_search.proofs.witnesses.Witnesses.spares_up_to.Given as goal

-- the requirements before place i drop nothing up to the limit
abbrev pub invariant-loop-i : goal.invariant-loop-i
invariant-loop-i l = record {
  shown : AreShown l.problem l.self l.cells.present;
  met : AreMet l.problem l.self l.at.term;
  same : l.self.kept ≡ l.fn.self.kept;
  same_ends : l.self.ends ≡ l.fn.self.ends;
  spared : SparedBelow l.problem l.cells.present l.at l.limit l.i;
}
