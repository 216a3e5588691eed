-- How features and aggregators count (Global Constraint Catalog, Volume II: features and aggregators): a row for each.
use Rattle.std.specs.Prelude.{ℤ, pos, Option, Some, None}
use Rattle.ts_base.specs.declared.ext.Ext.{Ext}
use Rattle.ts_base.specs.declared.ext.Ext.TheVariants.{Int}
use Rattle.ts_base.specs.declared.constant.Constant.{Constant}
use Rattle.ts_base.specs.declared.constant.Constant.TheVariants.{Zero, Unit as UnitConstant, NegInf, PosInf}
use Rattle.ts_base.specs.declared.op.Op.{Op}
use Rattle.ts_base.specs.declared.op.Op.TheVariants.{Add, Max, Min}
use Rattle.ts_base.specs.Operators.{constant_value}
use Rattle.ts_pattern.specs.declared.name.Aggregator.{Aggregator}
use Rattle.ts_pattern.specs.declared.name.Aggregator.TheVariants.{Sum, Max as MaxOf, Min as MinOf}
use Rattle.ts_pattern.specs.declared.name.Feature.{Feature}
use Rattle.ts_pattern.specs.declared.name.Feature.TheVariants.{One, Width, Surf, Max as MaxFeature, Min as MinFeature, Range}
use Rattle.ts_pattern.specs.declared.arithmetic.CellFold.{CellFold}
use Rattle.ts_pattern.specs.declared.arithmetic.RangeFold.{RangeFold}
use Rattle.ts_pattern.specs.declared.arithmetic.Worth.{Worth}
use Rattle.ts_pattern.specs.declared.arithmetic.Worth.TheVariants.{Unit as UnitWorth, Cell}

abbrev pub cells_by : Op → Constant → Worth → CellFold
cells_by op neutral worth = record { op = op; neutral = neutral; worth = worth }

-- what joins the cells of an e-range, what stands for no cell, and what a cell is worth; a range is the greatest cell,
-- less the least one
abbrev pub cell_fold : Feature → CellFold
cell_fold One = cells_by Max UnitConstant UnitWorth
cell_fold Width = cells_by Add Zero UnitWorth
cell_fold Surf = cells_by Add Zero Cell
cell_fold MaxFeature = cells_by Max NegInf Cell
cell_fold MinFeature = cells_by Min PosInf Cell
cell_fold Range = cells_by Max NegInf Cell

abbrev pub less_fold : Feature → Option CellFold
less_fold One = None
less_fold Width = None
less_fold Surf = None
less_fold MaxFeature = None
less_fold MinFeature = None
less_fold Range = Some (cells_by Min PosInf Cell)

abbrev pub ranges_by : Op → Constant → RangeFold
ranges_by op default = record { op = op; default = default }

-- what joins the features of e-ranges, and what stands for no e-range
abbrev pub range_fold : Aggregator → RangeFold
range_fold Sum = ranges_by Add Zero
range_fold MaxOf = ranges_by Max NegInf
range_fold MinOf = ranges_by Min PosInf

-- the parts of a row, by name
abbrev pub cell_op : Feature → Op
cell_op f = (cell_fold f).op

abbrev pub neutral_value : Feature → Ext
neutral_value f = constant_value (cell_fold f).neutral

abbrev pub range_op : Aggregator → Op
range_op g = (range_fold g).op

abbrev pub default_value : Aggregator → Ext
default_value g = constant_value (range_fold g).default

-- what a cell of this value is worth
abbrev pub worth_of : Worth → ℤ → ℤ
worth_of UnitWorth x = pos 1
worth_of Cell x = x

abbrev pub cell_value : Feature → ℤ → Ext
cell_value f x = Int (worth_of (cell_fold f).worth x)
