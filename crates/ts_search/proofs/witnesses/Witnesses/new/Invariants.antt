use Rattle.std.proofs.Common.{◌≡◌, length}
use Rattle.ts_search.proofs.Witnessed.{AreMade}
use Rattle.ts_search.proofs.witnesses.Witnesses.new.Given as goal

-- there is a witness of each requirement before place i
abbrev pub invariant-loop-i : goal.invariant-loop-i
invariant-loop-i l = record {
  count : length l.each.items ≡ l.i;
  made : AreMade l.problem l.each.items;
}
