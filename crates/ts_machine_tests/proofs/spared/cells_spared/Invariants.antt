use Rattle.std.proofs.Common.{◌≡◌, ◌<◌}
use Rattle.ts_witness.specs.KnownValues.{AreBeside, IsSpared}
use Rattle.ts_witness.specs.Witnesses.{IsWitness, series_of}
use Rattle.ts_machine_tests.proofs.spared.cells_spared.Given as goal

abbrev pub invariant-loop-k : goal.invariant-loop-k
invariant-loop-k l = record {
  witness : IsWitness l.m l.witness;
  series : series_of l.witness ≡ l.fn.series.items;
  cells : l.spared.cells.now ≡ l.cells;
  spared : IsSpared l.m l.r l.spared;
  beside : AreBeside l.m l.fn.series.items l.spared;
  few : l.count < l.k;
}
