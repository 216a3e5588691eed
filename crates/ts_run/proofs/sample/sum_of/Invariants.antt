use Rattle.std.proofs.Common.{◌≡◌, ◌*◌, ◌≤◌, ◌+ℤ◌, drop}
use Rattle.std.specs.Prelude.{unsigned_abs}
use Rattle.ts_run.specs.Sample.{sum_of}
use Rattle.ts_run.proofs.sample.sum_of.Given as goal

abbrev pub invariant-loop-k : goal.invariant-loop-k
invariant-loop-k l = record {
  sum : l.sum +ℤ sum_of (drop l.k l.series) ≡ sum_of l.series;
  size : unsigned_abs l.sum ≤ l.k * 1000000;
}
