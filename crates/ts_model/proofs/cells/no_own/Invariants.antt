use Rattle.std.proofs.Common.{◌≡◌, replicate, None}
use Rattle.ts_model.proofs.cells.no_own.Given as goal

abbrev pub invariant-loop : goal.invariant-loop
invariant-loop l = l.own.items ≡ replicate l.counter None
