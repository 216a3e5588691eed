-- How the two runs of a machine are glued, pair of states by pair of states: the expression at a cell follows from the
-- shape of the pair and from what the cell is worth.
use Rattle.std.specs.Prelude.{◌≡◌, ◌<◌, ℕ, ℤ, zero, suc, Bool, true, false, if◌then◌else◌, List, [], get_or, length}
use Rattle.ts_base.specs.declared.op.Op.{Op}
use Rattle.ts_automaton.specs.Body.{node_at}
use Rattle.ts_glue.specs.declared.gluing.Gluing.{Gluing}
use Rattle.ts_glue.specs.declared.operand.Part.{Part}
use Rattle.ts_glue.specs.declared.shape.Seam.{Seam}
use Rattle.ts_glue.specs.declared.shape.Seam.TheVariants.{Between, Both}
use Rattle.ts_glue.specs.declared.shape.Shape.{Shape}
use Rattle.ts_glue.specs.declared.shape.Shape.TheVariants.{Apart, Through}
use Rattle.ts_glue.specs.declared.shape.Shapes.{Shapes}
use Rattle.ts_glue.specs.declared.table.FoldOp.{FoldOp}
use Rattle.ts_glue.specs.Glue.{Glue, apart, join_of, folded_between, folded_both, fold_of, fold_op, is_join, is_pair, result_op}
use Rattle.ts_glue.specs.Pairs.{Pair}

-- a part of what is folded through a seam, where the cell is worth d
abbrev pub part_by : Seam → ℤ → Op → Part → Glue
part_by (Between held_left held_right) d o p = folded_between o p held_left held_right d
part_by Both d o p = folded_both o p d

-- the expression of a shape, where g joins results and f folds
abbrev pub glue_by : Op → FoldOp → ℤ → Shape → Glue
glue_by g f d Apart = apart (is_pair f) g
glue_by g f d (Through seam) = join_of g (fold_of (is_pair f) (fold_op f) (part_by seam d))

abbrev pub expression : Gluing → Glue
expression g = glue_by g.result g.fold g.worth g.shape

-- how one occurrence goes on: by what it leaves out at its end, and whether something is held on each side
abbrev pub seam_of : ℕ → Bool → Bool → Seam
seam_of zero held_left held_right = Both
seam_of (suc a) held_left held_right = Between held_left held_right

-- the shape of a forward and a reverse state
abbrev pub shape_of : Pair → ℕ → ℕ → Shape
shape_of p q r =
    if is_join p.table q r
    then Through (seam_of p.table.a (node_at p.forward.states q).held (node_at p.reverse.states r).held)
    else Apart

-- one occurrence goes on
abbrev pub goes_on : Shape → Bool
goes_on Apart = false
goes_on (Through seam) = true

abbrev pub shape_at : List (List Shape) → ℕ → ℕ → Shape
shape_at rows q r = get_or (get_or rows q []) r Apart

-- the row has the shapes of the forward state q
abbrev pub AreShapesOf : Pair → ℕ → List Shape → Type 0
AreShapesOf p q row = (r : ℕ) → r < length p.reverse.states → get_or row r Apart ≡ shape_of p q r

-- each forward state has the row of its shapes
abbrev pub AreShapeRows : Pair → List (List Shape) → Type 0
AreShapeRows p rows = (q : ℕ) → q < length p.forward.states → AreShapesOf p q (get_or rows q [])

-- they are the shapes of the pair, with its operators and its unit
abbrev pub AreShapes : Pair → Shapes → Type 0
AreShapes p t =
    (t.result ≡ result_op p)
    × (t.fold ≡ p.table.op)
    × (t.unit ≡ p.table.unit)
    × AreShapeRows p t.rows
