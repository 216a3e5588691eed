-- The automaton that a transducer becomes, with the registers of an aggregator and a feature
-- (Global Constraint Catalog, Volume II: decoration of transducers).
use Rattle.std.specs.Prelude.{ℕ, codes, Bool, is_some, List, [], ◌∷◌, Option, None, Some}
use Rattle.ts_base.specs.declared.constant.Constant.{Constant}
use Rattle.ts_base.specs.declared.ext.Ext.{Ext}
use Rattle.ts_base.specs.Operators.{constant_value}
use Rattle.ts_transducer.specs.declared.row.Arrow.{Arrow}
use Rattle.ts_transducer.specs.declared.row.Row.{Row}
use Rattle.ts_transducer.specs.Typing.{is_held}
use Rattle.ts_pattern.specs.declared.name.Aggregator.{Aggregator}
use Rattle.ts_pattern.specs.declared.name.Aggregator.TheVariants.{Max as MaxOf, Min as MinOf}
use Rattle.ts_pattern.specs.declared.name.Feature.{Feature}
use Rattle.ts_pattern.specs.declared.name.Feature.TheVariants.{Width}
use Rattle.ts_pattern.specs.declared.arithmetic.CellFold.{CellFold}
use Rattle.ts_pattern.specs.declared.arithmetic.Worth.{Worth}
use Rattle.ts_pattern.specs.declared.arithmetic.Worth.TheVariants.{Unit as UnitWorth, Cell as CellWorth}
use Rattle.ts_pattern.specs.Arithmetic.{cell_fold, less_fold}
use Rattle.ts_automaton.specs.declared.expr.Atom.{Atom}
use Rattle.ts_automaton.specs.declared.expr.Atom.TheVariants.{C, E, D, F, R, This, Next, Zero as ZeroAtom, Unit as UnitAtom}
use Rattle.ts_automaton.specs.declared.state.Mark.{Mark}
use Rattle.ts_automaton.specs.declared.state.Mark.TheVariants.{Same, Zero as ZeroMark, Cells}
use Rattle.ts_automaton.specs.Differences.{number_op}
use Rattle.ts_automaton.specs.Formula.{Formula, Leaf, Join, constant_atom}
use Rattle.ts_automaton.specs.Registers.{EachOf, each}
use Rattle.ts_automaton.specs.Body.{Move, Node, Body}
use Rattle.ts_decorate.specs.Operators.{Operators, after_phase, at_start, total_of}
use Rattle.ts_decorate.specs.Rows.{operators_by}

-- what a cell is worth, as a word of an expression
abbrev pub worth_atom : Worth → Atom → Atom
worth_atom UnitWorth cell = UnitAtom
worth_atom CellWorth cell = cell

-- what the cell read is worth, and what the next one is
abbrev pub here : Feature → Formula
here f = Leaf (worth_atom (cell_fold f).worth This)

abbrev pub next : Feature → Formula
next f = Leaf (worth_atom (cell_fold f).worth Next)

-- without an occurrence the greatest width is 0, and the least the number of the cells
abbrev pub mark_of : Aggregator → Feature → Mark
mark_of MaxOf Width = ZeroMark
mark_of MinOf Width = Cells
mark_of g f = Same

-- expressions as the values of the registers
abbrev pub constant_formula : Constant → Formula
constant_formula k = Leaf (constant_atom k)

abbrev pub expression_operators : Aggregator → Feature → Operators Formula
expression_operators g f = operators_by constant_formula Join g f

-- and numbers
abbrev pub number_operators : Aggregator → Feature → Operators Ext
number_operators g f = operators_by constant_value number_op g f

-- the automaton is wide where something is taken away
abbrev pub is_wide : Feature → Bool
is_wide f = is_some (less_fold f)

-- the register of a half, where it has a row
abbrev pub register_by : Option CellFold → Atom → Formula
register_by None a = Leaf ZeroAtom
register_by (Some row) a = Leaf a

abbrev pub registers : Feature → EachOf Formula
registers f = each (Leaf C) (register_by (less_fold f) E) (Leaf D) (register_by (less_fold f) F) (Leaf R)

abbrev pub move_made : ℕ → Aggregator → Feature → Arrow → Move
move_made a g f m =
    record { next = m.next; to = after_phase (expression_operators g f) a m.phase (registers f) (here f) (next f) }

abbrev pub node_made : ℕ → Aggregator → Feature → ℕ → Row → Node
node_made a g f name r = record {
  name = name;
  held = is_held r.kind;
  less = move_made a g f r.less;
  equal = move_made a g f r.equal;
  greater = move_made a g f r.greater;
}

-- one node a row, with the names in order
abbrev pub nodes_made : ℕ → Aggregator → Feature → List ℕ → List Row → List Node
nodes_made a g f [] rows = []
nodes_made a g f (name ∷ names) [] = []
nodes_made a g f (name ∷ names) (r ∷ rows) = node_made a g f name r ∷ nodes_made a g f names rows

-- the names of the states 0 to 7
abbrev pub state_names : List ℕ
state_names = codes "srtuvwxy"

abbrev pub decorated_body : List Row → ℕ → Aggregator → Feature → Body
decorated_body rows a g f = record {
  states = nodes_made a g f state_names rows;
  start = at_start (number_operators g f);
  finish = total_of (expression_operators g f) (registers f);
  mark = mark_of g f;
  wide = is_wide f;
}
