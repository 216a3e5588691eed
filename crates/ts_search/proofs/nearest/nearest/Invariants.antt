use Rattle.std.proofs.Common.{◌≡◌}
use Rattle.std.specs.Prelude.{Contains}
use Rattle.ts_witness.specs.Witnesses.{IsWitness, series_of}
use Rattle.ts_search.proofs.nearest.nearest.Given as goal

abbrev pub invariant-loop-i : goal.invariant-loop-i
invariant-loop-i l = record {
  witness : IsWitness l.m l.witness;
  series : series_of l.witness ≡ series_of l.fn.witness;
  there : Contains l.domain l.best.value;
}
