use Rattle.std.proofs.Common.{◌≡◌}
use Rattle.ts_run.specs.SampleModel.{cells_from}
use Rattle.ts_run.proofs.sampling.cells.Given as goal

abbrev pub invariant-loop-k : goal.invariant-loop-k
invariant-loop-k l = l.cells.items ≡ cells_from 1 l.k
