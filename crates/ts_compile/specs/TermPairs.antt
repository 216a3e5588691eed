-- The automata and the glue table of a term whose pattern has a partner.
use Rattle.std.specs.Prelude.{◌≡◌, ℕ, List, Option, None, Some}
use Rattle.ts_base.specs.declared.op.Op.{Op}
use Rattle.ts_base.specs.declared.op.Op.TheVariants.{Add, Max, Min}
use Rattle.ts_base.specs.declared.range.Join.{Join}
use Rattle.ts_pattern.specs.declared.name.Aggregator.{Aggregator}
use Rattle.ts_pattern.specs.declared.name.Feature.{Feature}
use Rattle.ts_pattern.specs.declared.name.PatternId.{PatternId}
use Rattle.ts_pattern.specs.declared.arithmetic.CellFold.{CellFold}
use Rattle.ts_pattern.specs.declared.arithmetic.Worth.{Worth}
use Rattle.ts_pattern.specs.declared.arithmetic.Worth.TheVariants.{Unit as UnitWorth, Cell as CellWorth}
use Rattle.ts_pattern.specs.Arithmetic.{cell_fold, less_fold}
use Rattle.ts_pattern.specs.PatternTable.{pattern_a}
use Rattle.ts_automaton.specs.Body.{Body}
use Rattle.ts_decorate.specs.Decoration.{decorated_body}
use Rattle.ts_seed.specs.SeedTable.{seed_table}
use Rattle.ts_glue.specs.declared.table.FoldOp.{FoldOp}
use Rattle.ts_glue.specs.declared.table.FoldOp.TheVariants.{Add as FoldAdd, Max as FoldMax, Min as FoldMin, Pair as FoldPair}
use Rattle.ts_glue.specs.declared.table.CellUnit.{CellUnit}
use Rattle.ts_glue.specs.declared.table.CellUnit.TheVariants.{Unit as UnitCell, Value as ValueCell}
use Rattle.ts_glue.specs.Pairs.{Table, Pair, pair}

-- an operator, and what a cell is worth, as a glue table names them
abbrev pub fold_op_of : Op → FoldOp
fold_op_of Add = FoldAdd
fold_op_of Max = FoldMax
fold_op_of Min = FoldMin

-- where something is taken away from a range, the greatest and the least cell are folded apart
abbrev pub folding_of : Option CellFold → Op → FoldOp
folding_of None o = fold_op_of o
folding_of (Some less) o = FoldPair

abbrev pub cell_unit_of : Worth → CellUnit
cell_unit_of UnitWorth = UnitCell
cell_unit_of CellWorth = ValueCell

-- the glue table of a feature, where an occurrence leaves out a cells at its end, and goes on between these states
abbrev pub glue_table_by : ℕ → Feature → List Join → Table
glue_table_by a f js =
    let cells = cell_fold f in
    record { a = a; op = folding_of (less_fold f) cells.op; unit = cell_unit_of cells.worth; joins = js }

abbrev pub glue_table_of : PatternId → Feature → Table
glue_table_of id f = glue_table_by (pattern_a id) f (seed_table id).joins

-- the automaton of a term of the pattern id by the rows of another seed: its own, or its partner's
abbrev pub body_by : PatternId → PatternId → Aggregator → Feature → Body
body_by id other g f = decorated_body (seed_table other).rows (pattern_a id) g f

-- the two automata with the table
abbrev pub pair_by : PatternId → PatternId → Aggregator → Feature → Pair
pair_by id partner g f = pair (body_by id id g f) (body_by id partner g f) (glue_table_of id f)

-- of a pattern and its partner, and each aggregator and feature
abbrev pub ForPartners : (PatternId → PatternId → Aggregator → Feature → Type 0) → Type 0
ForPartners P =
    (id partner : PatternId) → (seed_table id).partner ≡ Some partner → (g : Aggregator) (f : Feature) →
    P id partner g f
