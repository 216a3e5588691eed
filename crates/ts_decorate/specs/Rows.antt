-- The operators of an aggregator and a feature, by their rows, over any values with constants and operators.
use Rattle.std.specs.Prelude.{Option, None, Some}
use Rattle.ts_base.specs.declared.constant.Constant.{Constant}
use Rattle.ts_base.specs.declared.constant.Constant.TheVariants.{Zero}
use Rattle.ts_pattern.specs.declared.arithmetic.CellFold.{CellFold}
use Rattle.ts_pattern.specs.declared.name.Aggregator.{Aggregator}
use Rattle.ts_pattern.specs.declared.name.Feature.{Feature}
use Rattle.ts_pattern.specs.Arithmetic.{cell_fold, less_fold, range_fold, range_op}
use Rattle.ts_automaton.specs.declared.expr.Operator.{Operator}
use Rattle.ts_automaton.specs.declared.expr.Operator.TheVariants.{Fold, Sub}
use Rattle.ts_decorate.specs.Operators.{Half, Operators}

-- a half without a row stays as it is, at 0
abbrev pub phi_by : {A : Type 0} → (Operator → A → A → A) → Option CellFold → A → A → A
phi_by join None u v = u
phi_by join (Some row) u v = join (Fold row.op) u v

abbrev pub neutral_by : Option CellFold → Constant
neutral_by None = Zero
neutral_by (Some row) = row.neutral

-- of a range the less half is taken away, if it has a row
abbrev pub read_by : {A : Type 0} → (Operator → A → A → A) → Option CellFold → A → A → A
read_by join None u v = u
read_by join (Some row) u v = join Sub u v

abbrev pub half_by :
    {A : Type 0} → (Constant → A) → (Operator → A → A → A) → Option CellFold → Constant → Half A
half_by constant join row idle =
    record { phi = λ u v. phi_by join row u v; neutral = constant (neutral_by row); idle = constant idle }

abbrev pub operators_by :
    {A : Type 0} → (Constant → A) → (Operator → A → A → A) → Aggregator → Feature → Operators A
operators_by constant join g f =
    record {
      whole = half_by constant join (Some (cell_fold f)) (range_fold g).default;
      less = half_by constant join (less_fold f) Zero;
      read = λ u v. read_by join (less_fold f) u v;
      g = λ u v. join (Fold (range_op g)) u v;
      default = constant (range_fold g).default;
    }
