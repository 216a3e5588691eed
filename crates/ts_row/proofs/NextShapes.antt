-- The shape of a move that reads the next cell.
use Rattle.std.proofs.Common.{◌≡◌, Bool, true, false, refl}
use Rattle.ts_base.specs.declared.op.Op.{Op}
use Rattle.ts_automaton.specs.declared.expr.Atom.TheVariants.{C, D}
use Rattle.ts_automaton.specs.declared.expr.Operator.{Operator}
use Rattle.ts_automaton.specs.declared.expr.Operator.TheVariants.{Fold}
use Rattle.ts_automaton.specs.Formula.{Formula, Join, Leaf}
use Rattle.ts_hull.specs.Cuts.{all_swept}
use Rattle.ts_hull.specs.Splits.{TailOf, split_formula}
use Rattle.ts_row.specs.declared.plan.CellFold.{CellFold}
use Rattle.ts_row.specs.declared.plan.CellFold.TheVariants.{Ones, Width, Surf, Greatest, Least}
use Rattle.ts_row.specs.Plans.{cell_op, found_tails, inside_tails, longer_tails, next_to, once}
use Rattle.ts_sweep.specs.Moves.{of_width}

-- what is joined with D, a word and the next cell, or with C, D and the next cell, is split before the next cell
pub found_split : (f : CellFold) → split_formula (next_to (cell_op f) (once f)) ≡ TailOf (cell_op f) (once f)
found_split Ones = refl
found_split Width = refl
found_split Surf = refl
found_split Greatest = refl
found_split Least = refl

pub inside_split : (f : CellFold) → split_formula (Join (Fold (cell_op f)) (Leaf C) (next_to (cell_op f) (Leaf D))) ≡
    TailOf (cell_op f) (Join (Fold (cell_op f)) (Leaf C) (Leaf D))
inside_split Ones = refl
inside_split Width = refl
inside_split Surf = refl
inside_split Greatest = refl
inside_split Least = refl

-- moves whose last operand is the next cell can be swept, whatever the width
pub longer_swept : (wide : Bool) (o : Op) → all_swept (of_width wide (longer_tails o)) ≡ true
longer_swept true o = refl
longer_swept false o = refl

pub found_swept : (wide : Bool) (p : Operator) (o : Op) (w d : Formula) → all_swept (of_width wide (found_tails p o w d)) ≡ true
found_swept true p o w d = refl
found_swept false p o w d = refl

pub inside_swept : (wide : Bool) (p : Operator) (o : Op) (d : Formula) → all_swept (of_width wide (inside_tails p o d)) ≡ true
inside_swept true p o d = refl
inside_swept false p o d = refl
