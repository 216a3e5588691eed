use Rattle.std.proofs.Common.{◌≤ℤ◌}
use Rattle.ts_search.proofs.FreeValues.{LetBelow}
use Rattle.ts_search.proofs.sparing.WitnessesSpares.tell.Given as goal

-- the requirements before place i drop none of the values up to this one
abbrev pub invariant-loop-i : goal.invariant-loop-i
invariant-loop-i l = (l.v ≤ℤ l.to) × LetBelow l.requirements l.cells.present l.self l.term l.k l.v l.to l.i
