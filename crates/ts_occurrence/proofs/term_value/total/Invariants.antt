use Rattle.std.proofs.Common.{◌≡◌, ◌*◌, map, take}
use Rattle.std.specs.Prelude.{IfSome}
use Rattle.ts_pattern.specs.FeatureValue.{over, feature_value}
use Rattle.ts_base.specs.Operators.{int_op}
use Rattle.ts_occurrence.specs.Total.{IsWithin}
use Rattle.ts_occurrence.proofs.term_value.total.Given as goal

abbrev pub invariant-loop-k : goal.invariant-loop-k
invariant-loop-k l =
    record {
      so_far : l.total ≡ over (int_op l.op) (map (λ r. feature_value l.f r l.series) (take l.k l.ranges));
      within : IfSome l.total (λ t. IsWithin (1024000000 * l.k) t);
    }
