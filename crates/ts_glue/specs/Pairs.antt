-- A forward and a reverse automaton, and how the values of the two are glued.
use Rattle.std.specs.Prelude.{ℕ, List}
use Rattle.ts_base.specs.declared.range.Join.{Join}
use Rattle.ts_automaton.specs.Body.{Body}
use Rattle.ts_glue.specs.declared.table.FoldOp.{FoldOp}
use Rattle.ts_glue.specs.declared.table.CellUnit.{CellUnit}
use Rattle.ts_glue.specs.declared.table.GlueTable.{GlueTable}

-- what contracts see of a glue table
pub record Table : Type 0 where
  pub a : ℕ
  pub op : FoldOp
  pub unit : CellUnit
  pub joins : List Join

abbrev pub table_view : GlueTable → Table
table_view t = record { a = t.a; op = t.op; unit = t.unit; joins = t.joins.items }

pub record Pair : Type 0 where
  pub forward : Body
  pub reverse : Body
  pub table : Table

abbrev pub pair : Body → Body → Table → Pair
pair f b t = record { forward = f; reverse = b; table = t }
