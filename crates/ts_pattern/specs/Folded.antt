-- The rows by which features count, over the cells of an e-range.
use Rattle.std.specs.Prelude.{ℤ, pos, ◌-ℤ◌, List, map, Option, None, Some, option_map}
use Rattle.ts_base.specs.Operators.{int_op}
use Rattle.ts_pattern.specs.declared.arithmetic.CellFold.{CellFold}
use Rattle.ts_pattern.specs.declared.name.Feature.{Feature}
use Rattle.ts_pattern.specs.Arithmetic.{cell_fold, less_fold, worth_of}
use Rattle.ts_pattern.specs.FeatureValue.{over, or_zero}

-- what a row joins of what the cells are worth
abbrev pub joined_by : CellFold → List ℤ → Option ℤ
joined_by row cells = over (int_op row.op) (map (worth_of row.worth) cells)

-- what is taken away
abbrev pub taken_away : Option CellFold → List ℤ → ℤ
taken_away None cells = pos 0
taken_away (Some row) cells = or_zero (joined_by row cells)

-- what the rows of a feature make of the cells
abbrev pub folded_by : Feature → List ℤ → Option ℤ
folded_by f cells = option_map (λ x. x -ℤ taken_away (less_fold f) cells) (joined_by (cell_fold f) cells)
