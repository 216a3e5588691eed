use Rattle.std.proofs.Common.{◌≡◌, ℤ}
use Rattle.std.specs.Prelude.{Contains}
use Rattle.ts_filter.specs.Boxes.{values_at}
use Rattle.ts_search.specs.Views.{search_of}
use Rattle.ts_search.proofs.CodeLeaps.{AreFreeBut}
use Rattle.ts_search.proofs.leap.takes_free_values.Given as goal

abbrev pub invariant-loop-v : goal.invariant-loop-v
invariant-loop-v l = record {
  same : l.tables ≡ l.fn.tables;
  inside : (v : ℤ) → Contains l.v-iterator v → Contains (values_at l.halving.cell l.cells.present) v;
  free : AreFreeBut (search_of l.problem) l.cells.present l.halving.cell l.halving.at l.v-iterator;
}
