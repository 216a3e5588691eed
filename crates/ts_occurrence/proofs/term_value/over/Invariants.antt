use Rattle.std.proofs.Common.{◌≡◌, ◌*◌, map, take}
use Rattle.std.specs.Prelude.{IfSome}
use Rattle.ts_pattern.specs.Arithmetic.{worth_of}
use Rattle.ts_pattern.specs.FeatureValue.{over}
use Rattle.ts_base.specs.Operators.{int_op}
use Rattle.ts_occurrence.specs.Total.{IsWithin}
use Rattle.ts_occurrence.proofs.term_value.over.Given as goal

abbrev pub invariant-loop-k : goal.invariant-loop-k
invariant-loop-k l =
    record {
      so_far : l.total ≡ over (int_op l.op) (map (worth_of l.worth) (take l.k l.cells));
      within : IfSome l.total (λ t. IsWithin (1000000 * l.k) t);
    }
