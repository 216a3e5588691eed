-- The shape of a move, by its expressions: those that a shape names are split as it says.
use Rattle.std.proofs.Common.{◌≡◌, Bool, true, false, ◌&&◌, refl, sym, ap, subst, ◌∙◌}
use Rattle.ts_automaton.specs.Body.{Move}
use Rattle.ts_automaton.specs.declared.expr.Atom.TheVariants.{C, E, F}
use Rattle.ts_automaton.specs.Formula.{Formula, Leaf, is_zero}
use Rattle.ts_automaton.specs.Registers.{each, rests}
use Rattle.ts_automaton.proofs.Five.{five_true}
use Rattle.ts_hull.specs.Cuts.{cut_of, whole_cut}
use Rattle.ts_hull.specs.Splits.{FrontOf, is_front, split_formula}
use Rattle.ts_hull.proofs.Wholes.{same_cut, whole_split}
use Rattle.ts_row.specs.declared.plan.CellFold.{CellFold}
use Rattle.ts_row.specs.declared.plan.CellFold.TheVariants.{Ones, Width, Surf, Greatest, Least}
use Rattle.ts_row.specs.declared.plan.RangeFold.{RangeFold}
use Rattle.ts_row.specs.declared.plan.RangeFold.TheVariants.{Sum, Highest, Lowest}
use Rattle.ts_row.specs.declared.plan.Shape.{Shape}
use Rattle.ts_row.specs.declared.plan.Shape.TheVariants.{Kept, Longer, Begun, Found, Inside, Ended, Anew, FoundTwice, EndedTwice, LongerNext, FoundNext, InsideNext, Other}
use Rattle.ts_row.specs.Plans.{IsShapeOf, cell_start, cell_word, least, less_of, made_by, once, range_start, result_by, twice}
use Rattle.ts_row.proofs.NextShapes.{found_split, inside_split}
use Rattle.ts_sweep.specs.Moves.{of_width, rest_split}
use Rattle.ts_sweep.proofs.Widths.{width_cut}

-- the next cell stands in no word of a fold
word_front : (f : CellFold) → is_front (cell_word f) ≡ true
word_front Ones = refl
word_front Width = refl
word_front Surf = refl
word_front Greatest = refl
word_front Least = refl

twice_front : (f : CellFold) → is_front (twice f) ≡ true
twice_front Ones = refl
twice_front Width = refl
twice_front Surf = refl
twice_front Greatest = refl
twice_front Least = refl

start_front : (f : CellFold) → is_front (cell_start f) ≡ true
start_front Ones = refl
start_front Width = refl
start_front Surf = refl
start_front Greatest = refl
start_front Least = refl

start_split : (f : CellFold) → split_formula (cell_start f) ≡ FrontOf (cell_start f)
start_split Ones = refl
start_split Width = refl
start_split Surf = refl
start_split Greatest = refl
start_split Least = refl

range_front : (g : RangeFold) → is_front (range_start g) ≡ true
range_front Sum = refl
range_front Highest = refl
range_front Lowest = refl

less_front : (wide : Bool) (e f : Formula) → is_front e ≡ true → is_front f ≡ true → is_front (less_of wide e f) ≡ true
less_front true e f h i = ap (λ z. z && is_front f) h ∙ i
less_front false e f h i = h

-- a move by the expressions that a shape names
abbrev made_move : Bool → Shape → Move
made_move wide s = record { next = 0; to = each (made_by s).0 (made_by s).1 (made_by s).2 (made_by s).3 (result_by wide s) }

fronts_made : (wide : Bool) (s : Shape) → is_front (made_by s).0 ≡ true → is_front (made_by s).1 ≡ true → is_front (made_by s).2 ≡ true →
    is_front (made_by s).3 ≡ true → is_front (result_by wide s) ≡ true →
    of_width wide (cut_of (made_move wide s)) ≡ of_width wide (whole_cut (made_move wide s))
fronts_made wide s c e d f r = ap (of_width wide) (whole_split (made_move wide s) (five_true _ _ _ _ _ c e d f r))

shape_made : (wide : Bool) (s : Shape) → IsShapeOf wide s (of_width wide (cut_of (made_move wide s)))
shape_made wide Kept = refl
shape_made wide (Longer f) = fronts_made wide (Longer f) refl refl (word_front f) refl refl
shape_made wide (Begun f) = fronts_made wide (Begun f) refl refl (start_front f) refl refl
shape_made wide (Found f) = fronts_made wide (Found f) (word_front f) refl (start_front f) refl refl
shape_made wide (Inside f) = fronts_made wide (Inside f) (word_front f) refl (start_front f) refl refl
shape_made wide (Ended g f) =
    fronts_made wide (Ended g f) refl refl (start_front f) refl (less_front wide (once f) (least (Leaf F)) (word_front f) refl)
shape_made wide (Anew g f) = fronts_made wide (Anew g f) (range_front g) refl (start_front f) refl (less_front wide (Leaf C) (Leaf E) refl refl)
shape_made wide (FoundTwice f) = fronts_made wide (FoundTwice f) (twice_front f) refl (start_front f) refl refl
shape_made wide (EndedTwice g f) =
    fronts_made wide (EndedTwice g f) refl refl (start_front f) refl (less_front wide (twice f) (least (least (Leaf F))) (twice_front f) refl)
shape_made wide (LongerNext f) = refl
shape_made wide (FoundNext f) = same_cut (found_split f) refl (start_split f) refl refl
shape_made wide (InsideNext f) = same_cut (inside_split f) refl (start_split f) refl refl
shape_made wide Other = tt

-- E and F are read in a wide automaton alone
rest_same : (wide : Bool) (e f : Formula) → (wide ≡ true → e ≡ f) → rest_split wide (split_formula e) ≡ rest_split wide (split_formula f)
rest_same true e f h = ap split_formula (h refl)
rest_same false e f h = refl

shape_is : (wide : Bool) (s : Shape) (m : Move) → rests is_zero wide m.to ≡ true → m.to.c ≡ (made_by s).0 → m.to.d ≡ (made_by s).2 →
    m.to.r ≡ result_by wide s → (wide ≡ true → (m.to.e ≡ (made_by s).1) × (m.to.f ≡ (made_by s).3)) → IsShapeOf wide s (cut_of m)
shape_is wide s m zero c d r low =
    let same : of_width wide (cut_of m) ≡ of_width wide (cut_of (made_move wide s)) =
    same_cut (ap split_formula c) (rest_same wide m.to.e (made_by s).1 (λ w. (low w).0)) (ap split_formula d)
    (rest_same wide m.to.f (made_by s).3 (λ w. (low w).1)) (ap split_formula r) in
    subst (IsShapeOf wide s) (sym (width_cut wide m zero ∙ same)) (shape_made wide s)

-- a move whose expressions pass the tests of a shape has that shape
pub tested_shape : (wide : Bool) (s : Shape) (m : Move) (c d r low : Bool) → rests is_zero wide m.to ≡ true → (c ≡ true → m.to.c ≡ (made_by s).0) →
    (d ≡ true → m.to.d ≡ (made_by s).2) → (r ≡ true → m.to.r ≡ result_by wide s) →
    (low ≡ true → wide ≡ true → (m.to.e ≡ (made_by s).1) × (m.to.f ≡ (made_by s).3)) → (c && d && r && low) ≡ true → IsShapeOf wide s (cut_of m)
tested_shape wide s m true true true low zero c_is d_is r_is low_is is = shape_is wide s m zero (c_is refl) (d_is refl) (r_is refl) (low_is is)
tested_shape wide s m true true false low zero c_is d_is r_is low_is is = cc
tested_shape wide s m true false r low zero c_is d_is r_is low_is is = cc
tested_shape wide s m false d r low zero c_is d_is r_is low_is is = cc
