use Rattle.std.proofs.Common.{◌≡◌, ◌-◌}
use Rattle.std.specs.Prelude.{IfSome}
use Rattle.ts_glue.specs.Machines.{forward_of}
use Rattle.ts_witness.specs.KnownValues.{IsLike}
use Rattle.ts_witness.specs.Witnesses.{IsWitness, series_of}
use Rattle.ts_witness.proofs.KnownValues.{AreTried}
use Rattle.ts_witness.proofs.spared.meets_up_to.Given as goal

abbrev pub invariant-loop-v : goal.invariant-loop-v
invariant-loop-v l = record {
  witness : IsWitness l.m l.witness;
  series : series_of l.witness ≡ series_of l.fn.witness;
  like : IfSome l.like (IsLike (forward_of l.m) l.r (series_of l.fn.witness) (l.k - 1));
  tried : AreTried (forward_of l.m) l.r (series_of l.fn.witness) (l.k - 1) l.domain l.fn.low l.v-iterator;
}
