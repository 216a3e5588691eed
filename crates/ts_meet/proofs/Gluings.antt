-- What is glued of ends stands for what is glued of spans; where sums are plain, they meet small numbers.
use mir.Val.{SFits}
use Rattle.std.specs.Int.{int_max, int_min}
use Rattle.std.proofs.Common.{◌≡◌, ◌⊎◌, inl, inr, ℕ, zero, suc, ◌+◌, ◌*◌, ◌≤◌, ◌<◌, ◌≤ℤ◌, ◌<ℤ◌, ℤ, pos, negsuc, neg_ℤ, Bool, true, false, cond, ◌||◌, w64, List, [], ◌∷◌, get_or, refl, sym, ap, subst, ◌∙◌, arith, rules}
use Rattle.std.proofs.lemmas.Int.{ints}
use Rattle.ts_base.specs.declared.ext.Ext.TheVariants.{Int}
use Rattle.ts_base.specs.declared.op.Op.{Op}
use Rattle.ts_base.specs.declared.op.Op.TheVariants.{Add, Max, Min}
use Rattle.ts_base.specs.declared.span.Span.{Span}
use Rattle.ts_base.specs.Limits.{IsCellValue}
use Rattle.ts_base.specs.Spans.{has_some, one_span}
use Rattle.ts_automaton.specs.declared.expr.Atom.TheVariants.{C, E, D, F, R, This, Next, Zero, Unit as UnitAtom, NegInf as LowAtom, PosInf as HighAtom}
use Rattle.ts_automaton.specs.declared.expr.Operator.{Operator}
use Rattle.ts_automaton.specs.declared.expr.Operator.TheVariants.{Fold, Sub}
use Rattle.ts_automaton.specs.Body.{node_at}
use Rattle.ts_automaton.specs.Formula.{Formula, Leaf, Join}
use Rattle.ts_automaton.specs.Registers.{EachOf, Takes, Values, value_in}
use Rattle.ts_glue.specs.declared.operand.Part.{Part}
use Rattle.ts_glue.specs.declared.operand.Part.TheVariants.{Whole, Away}
use Rattle.ts_glue.specs.Glue.{Glue, Left, Right, Number, With, GlueTakes, apart, counted_once, fold_of, fold_op, folded_between, folded_both, glue_in, glue_of, held_in, held_of, is_join, is_wide, join_of, open_in, opened, part_of, result_of, result_op, then_opened, worth}
use Rattle.ts_glue.specs.declared.shape.Seam.{Seam}
use Rattle.ts_glue.specs.declared.shape.Shape.{Shape}
use Rattle.ts_glue.specs.declared.shape.Shape.TheVariants.{Apart as NoJoin, Through}
use Rattle.ts_glue.specs.Pairs.{Pair}
use Rattle.ts_glue.specs.Shapes.{glue_by, goes_on, seam_of, shape_of}
use Rattle.ts_glue.proofs.Calls.{shape_is}
use Rattle.ts_hull.specs.Sealed.{sealed_op, sealed_spans}
use Rattle.ts_sweep.specs.declared.packed.Ends.{Ends}
use Rattle.ts_sweep.specs.declared.packed.Name.TheVariants.{C as NameC}
use Rattle.ts_sweep.specs.FrontLaws.{never_added, number_within, plain_register}
use Rattle.ts_sweep.specs.Fronts.{ArePlain}
use Rattle.ts_sweep.specs.Lanes.{least}
use Rattle.ts_sweep.specs.OperatorLaws.{sum_within, greater_within, less_within, lesser_within}
use Rattle.ts_sweep.specs.Operators.{crossed, sum_of_ends}
use Rattle.ts_sweep.specs.Packed.{AreSome, AreWithin, IsPackOf, IsSomeEnds, IsWithin, register_span}
use Rattle.ts_sweep.specs.PackedLaws.{same_ends}
use Rattle.ts_meet.specs.declared.gluing.Gluing.{Gluing}
use Rattle.ts_meet.specs.Joints.{IsFoldPlain, IsHeldPlain, IsOpenPlain, IsPlain, expression, folds_held, held_ends, is_add, joined_expression, once, open_ends, part_by}
use Rattle.ts_meet.specs.SideLaws.{cell_within, far_infinity, near_small}
use Rattle.ts_meet.specs.Sides.{AreSomeEnds, ArePackOf, IsInfinity, IsNeutral, TakesAny, TakesNear, TakesPlain, is_far, plain_by, plain_values}

-- registers alone stand in an expression
abbrev OfRegisters : Formula → Type 0
OfRegisters (Leaf C) = Unit {0}
OfRegisters (Leaf E) = Unit {0}
OfRegisters (Leaf D) = Unit {0}
OfRegisters (Leaf F) = Unit {0}
OfRegisters (Leaf R) = Unit {0}
OfRegisters (Leaf This) = ⊥
OfRegisters (Leaf Next) = ⊥
OfRegisters (Leaf Zero) = ⊥
OfRegisters (Leaf UnitAtom) = ⊥
OfRegisters (Leaf LowAtom) = ⊥
OfRegisters (Leaf HighAtom) = ⊥
OfRegisters (Join o f g) = OfRegisters f × OfRegisters g

-- registers and values of cells alone stand in a glue expression
abbrev AreCells : Glue → Type 0
AreCells (Left f) = OfRegisters f
AreCells (Right f) = OfRegisters f
AreCells (Number x) = IsCellValue x
AreCells (With o u v) = AreCells u × AreCells v

module _ (m : Values Ends) (P : Operator → Ends → Ends → Type 0)
    (number : (x : ℤ) → IsCellValue x → IsPackOf (m.constant (Int x)) (one_span (Int x)))
    (packs : (o : Operator) (a b : Ends) (s t : Span) → P o a b → IsPackOf a s → IsPackOf b t → IsPackOf (m.join o a b) (sealed_op o s t)) where
  pub value_packs : (f : Formula) (a : EachOf Ends) (s : EachOf Span) → OfRegisters f → Takes P m a (pos 0) (pos 0) f → ArePackOf a s →
      IsPackOf (value_in m a (pos 0) (pos 0) f) (value_in sealed_spans s (pos 0) (pos 0) f)
  value_packs (Leaf C) a s r h p = p.0
  value_packs (Leaf E) a s r h p = p.1
  value_packs (Leaf D) a s r h p = p.2
  value_packs (Leaf F) a s r h p = p.3
  value_packs (Leaf R) a s r h p = p.4
  value_packs (Leaf This) a s r h p = absurd r
  value_packs (Leaf Next) a s r h p = absurd r
  value_packs (Leaf Zero) a s r h p = absurd r
  value_packs (Leaf UnitAtom) a s r h p = absurd r
  value_packs (Leaf LowAtom) a s r h p = absurd r
  value_packs (Leaf HighAtom) a s r h p = absurd r
  value_packs (Join o f g) a s r h p = packs o _ _ _ _ h.2 (value_packs f a s r.0 h.0 p) (value_packs g a s r.1 h.1 p)

  glue_packs : (u : Glue) (a b : EachOf Ends) (s t : EachOf Span) → AreCells u → GlueTakes P m a b u → ArePackOf a s → ArePackOf b t →
      IsPackOf (glue_in m a b u) (glue_in sealed_spans s t u)
  glue_packs (Left f) a b s t cells h p q = value_packs f a s cells h p
  glue_packs (Right f) a b s t cells h p q = value_packs f b t cells h q
  glue_packs (Number x) a b s t cells h p q = number x cells
  glue_packs (With o u v) a b s t cells h p q =
      packs o _ _ _ _ h.2 (glue_packs u a b s t cells.0 h.0 p q) (glue_packs v a b s t cells.1 h.1 p q)

cell_neg : (x : ℤ) → IsCellValue x → IsCellValue (neg_ℤ x)
cell_neg x h = let a = h.0 in let b = h.1 in (omega (arith, ints, a, b), omega (arith, ints, a, b))

held_register : (p : Part) → OfRegisters (held_in p)
held_register Whole = tt
held_register Away = tt

open_register : (p : Part) → OfRegisters (open_in p)
open_register Whole = tt
open_register Away = tt

-- a part of the one occurrence
abbrev pub folded : Op → Part → ℤ → Bool → Bool → Bool → Glue
folded o p d trims l r = cond trims (folded_between o p l r d) (folded_both o p d)

fold_cells : (o : Op) (p : Part) (d : ℤ) (trims l r : Bool) → IsCellValue d → AreCells (folded o p d trims l r)
fold_cells o p d true true true h = ((((held_register p, open_register p), h), held_register p), open_register p)
fold_cells o p d true true false h = (((held_register p, open_register p), h), open_register p)
fold_cells o p d true false true h = (((open_register p, h), held_register p), open_register p)
fold_cells o p d true false false h = ((open_register p, h), open_register p)
fold_cells Add p d false l r h = (((held_register p, open_register p), (held_register p, open_register p)), cell_neg d h)
fold_cells Max p d false l r h = ((held_register p, open_register p), (held_register p, open_register p))
fold_cells Min p d false l r h = ((held_register p, open_register p), (held_register p, open_register p))

parts_cells : (g : Gluing) (wide : Bool) → IsCellValue g.worth → AreCells (fold_of wide g.fold (part_by g))
parts_cells g false h = fold_cells g.fold Whole g.worth g.trims g.held_left g.held_right h
parts_cells g true h =
    (fold_cells g.fold Whole g.worth g.trims g.held_left g.held_right h, fold_cells Min Away g.worth g.trims g.held_left g.held_right h)

apart_cells : (wide : Bool) (o : Op) → AreCells (apart wide o)
apart_cells false o = ((tt, tt), (tt, tt))
apart_cells true o = ((tt, (tt, tt)), (tt, (tt, tt)))

cells_by : (g : Gluing) (joins : Bool) → IsCellValue g.worth →
    AreCells (cond joins (join_of g.result (fold_of g.wide g.fold (part_by g))) (apart g.wide g.result))
cells_by g true h = ((tt, tt), parts_cells g g.wide h)
cells_by g false h = apart_cells g.wide g.result

-- a gluing with another flag for whether one occurrence goes on
abbrev pub told : Gluing → Bool → Gluing
told g j = record {
  result = g.result;
  fold = g.fold;
  worth = g.worth;
  wide = g.wide;
  joins = j;
  trims = g.trims;
  held_left = g.held_left;
  held_right = g.held_right;
}

-- what a gluing makes of ends stands for the glued span
pub glued_packs : (m : Values Ends) (P : Operator → Ends → Ends → Type 0) →
    ((x : ℤ) → IsCellValue x → IsPackOf (m.constant (Int x)) (one_span (Int x))) →
    ((o : Operator) (a b : Ends) (s t : Span) → P o a b → IsPackOf a s → IsPackOf b t → IsPackOf (m.join o a b) (sealed_op o s t)) →
    (g : Gluing) (a b : EachOf Ends) → IsCellValue g.worth → GlueTakes P m a b (expression g) → (e : Ends) → e ≡ glue_in m a b (expression g) →
    (s t : EachOf Span) → ArePackOf a s → ArePackOf b t → IsPackOf e (glue_in sealed_spans s t (expression g))
glued_packs m P number packs g a b cell takes e is s t p q =
    subst (λ z. IsPackOf z (glue_in sealed_spans s t (expression g))) (sym is)
    (glue_packs m P number packs (expression g) a b s t (cells_by g g.joins cell) takes p q)

answer_cells : (wide : Bool) (o : Op) → OfRegisters (result_of wide o)
answer_cells true o = (tt, (tt, tt))
answer_cells false o = (tt, tt)

-- what is made of a run's ends for its answer stands for the answer
pub answer_packs : (m : Values Ends) (P : Operator → Ends → Ends → Type 0) →
    ((x : ℤ) → IsCellValue x → IsPackOf (m.constant (Int x)) (one_span (Int x))) →
    ((o : Operator) (a b : Ends) (s t : Span) → P o a b → IsPackOf a s → IsPackOf b t → IsPackOf (m.join o a b) (sealed_op o s t)) →
    (wide : Bool) (o : Op) (a : EachOf Ends) → Takes P m a (pos 0) (pos 0) (result_of wide o) → (e : Ends) →
    e ≡ value_in m a (pos 0) (pos 0) (result_of wide o) → (s : EachOf Span) → ArePackOf a s →
    IsPackOf e (value_in sealed_spans s (pos 0) (pos 0) (result_of wide o))
answer_packs m P number packs wide o a takes e is s p =
    subst (λ z. IsPackOf z (value_in sealed_spans s (pos 0) (pos 0) (result_of wide o))) (sym is)
    (value_packs m P number packs (result_of wide o) a s (answer_cells wide o) takes p)

-- the whole of an occurrence is in its fold
pub whole_taken : (m : Values Ends) (P : Operator → Ends → Ends → Type 0) (a b : EachOf Ends) (wide : Bool) (o : Op) (part : Op → Part → Glue) →
    GlueTakes P m a b (fold_of wide o part) → GlueTakes P m a b (part o Whole)
whole_taken m P a b true o part h = h.0
whole_taken m P a b false o part h = h

-- sums of any numbers take all

pub any_value : (m : Values Ends) (a : EachOf Ends) (f : Formula) → Takes TakesAny m a (pos 0) (pos 0) f
any_value m a (Leaf w) = tt
any_value m a (Join o f g) = (any_value m a f, any_value m a g, tt)

pub any_takes : (m : Values Ends) (a b : EachOf Ends) (u : Glue) → GlueTakes TakesAny m a b u
any_takes m a b (Left f) = any_value m a f
any_takes m a b (Right f) = any_value m b f
any_takes m a b (Number x) = tt
any_takes m a b (With o u v) = (any_takes m a b u, any_takes m a b v, tt)

-- plain ones take small numbers

more_within : (i : ℕ) (x : ℤ) → i ≤ 5 → IsWithin i x → IsWithin 5 x
more_within i x few h = let a = h.0 in let b = h.1 in (omega (arith, ints, few, a, b), omega (arith, ints, few, a, b))

are_within : (i : ℕ) (e : Ends) → i ≤ 5 → AreWithin i e → AreWithin 5 e
are_within i e few h = (more_within i e.below few h.0, more_within i e.above few h.1)

both_within : (o : Operator) (i j : ℕ) (a b : Ends) → i ≤ 5 → AreWithin i a → AreWithin j b → AreWithin (i + j) (plain_by o a b)
both_within (Fold Add) i j a b few p q = sum_within i j a b p q
both_within (Fold Max) i j a b few p q = greater_within i j a b p q
both_within (Fold Min) i j a b few p q = lesser_within i j a b p q
both_within Sub i j a b few p q =
    subst (AreWithin (i + j)) (sym (ap (λ z. cond z a (sum_of_ends a (crossed b))) (near_small a (are_within i a few p)))) (less_within i j a b p q)

both_taken : (o : Operator) (i j : ℕ) (a b : Ends) → i ≤ 5 → j ≤ 5 → AreWithin i a → AreWithin j b → TakesPlain o a b
both_taken (Fold Add) i j a b few less p q = (are_within i a few p, are_within j b less q)
both_taken (Fold Max) i j a b few less p q = tt
both_taken (Fold Min) i j a b few less p q = tt
both_taken Sub i j a b few less p q =
    (λ e. are_within i a few p, λ e. never_added (sym e ∙ near_small a (are_within i a few p)), are_within j b less q)

-- how many registers and numbers stand in a glue expression; that no operand has more than five, where each register stands alone
abbrev words : Glue → ℕ
words (Left f) = 1
words (Right f) = 1
words (Number x) = 1
words (With o u v) = words u + words v

abbrev IsWord : Formula → Type 0
IsWord (Leaf w) = Unit {0}
IsWord (Join o f g) = ⊥

word_taken : (f : Formula) (a : EachOf Ends) → IsWord f → Takes TakesPlain plain_values a (pos 0) (pos 0) f
word_taken (Leaf w) a h = tt
word_taken (Join o f g) a h = absurd h

abbrev IsNarrow : Glue → Type 0
IsNarrow (Left f) = IsWord f
IsNarrow (Right f) = IsWord f
IsNarrow (Number x) = Unit {0}
IsNarrow (With o u v) = (words u ≤ 5) × (words v ≤ 5) × IsNarrow u × IsNarrow v

-- no operator in a glue expression adds
abbrev adds : Operator → Bool
adds (Fold o) = is_add o
adds Sub = true

abbrev AddsNever : Glue → Type 0
AddsNever (Left f) = IsWord f
AddsNever (Right f) = IsWord f
AddsNever (Number x) = Unit {0}
AddsNever (With o u v) = (adds o ≡ false) × AddsNever u × AddsNever v

-- nothing is taken away in a glue expression
abbrev OfFolds : Glue → Type 0
OfFolds (Left f) = IsWord f
OfFolds (Right f) = IsWord f
OfFolds (Number x) = Unit {0}
OfFolds (With (Fold o) u v) = OfFolds u × OfFolds v
OfFolds (With Sub u v) = ⊥

free_taken : (o : Operator) (a b : Ends) → adds o ≡ false → TakesPlain o a b
free_taken (Fold Add) a b e = never_added e
free_taken (Fold Max) a b e = tt
free_taken (Fold Min) a b e = tt
free_taken Sub a b e = never_added e

-- ends that are plain are small numbers

at_most_self : (x : ℤ) → x ≤ℤ x
at_most_self x = grind (arith, ints)

small : (e : Ends) → IsSomeEnds e → ArePlain e → AreWithin 1 e
small e some plain = plain_register 6 NameC lanes lanes (omega arith) are_some (λ k. at_most_self (get_or lanes k (pos 0))) plain
  where
    lanes : List ℤ
    lanes = e.below ∷ e.above ∷ e.below ∷ e.above ∷ e.below ∷ e.above ∷ []

    above : (k : ℕ) → k < 6 → least <ℤ get_or lanes k (pos 0)
    above zero lt = some.below
    above (suc zero) lt = some.above
    above (suc (suc zero)) lt = some.below
    above (suc (suc (suc zero))) lt = some.above
    above (suc (suc (suc (suc zero)))) lt = some.below
    above (suc (suc (suc (suc (suc zero))))) lt = some.above
    above (suc (suc (suc (suc (suc (suc k)))))) lt = absurd (omega (arith, lt))

    holds : (r : ℕ) → 2 * r + 1 < 6 → has_some (register_span lanes r) ≡ true
    holds zero lt = some.some
    holds (suc zero) lt = some.some
    holds (suc (suc zero)) lt = some.some
    holds (suc (suc (suc r))) lt = absurd (omega (arith, lt))

    are_some : AreSome 6 lanes
    are_some = record { len = refl; above = above; some = holds }

-- a fold of a small number and of ends that lie on one side of small ones is small: it has the other end from that number

-- the greatest has no lower end below those of small numbers where its upper one is small, the least no upper one above them
abbrev IsBeside : Op → Ends → Type 0
IsBeside Add e = AreWithin 1 e
IsBeside Max e = (neg_ℤ (pos 10000000000000000) ≤ℤ e.below) × (e.above ≤ℤ pos 10000000000000000)
IsBeside Min e = (e.below ≤ℤ pos 10000000000000000) × (neg_ℤ (pos 10000000000000000) ≤ℤ e.above)

small_or_not : (x : ℤ) → (x ≤ℤ pos 10000000000000000) ⊎ (pos 10000000000000000 <ℤ x)
small_or_not x = grind (arith, ints)

open_beside : (o : Op) (e : Ends) → IsSomeEnds e → IsOpenPlain o e → IsBeside o e
open_beside Add e some p = small e some p
open_beside Max e some p = (
  elim (small_or_not e.below) [
    | inl is ↦ (small e some (is, p)).0.0
    | inr large ↦ omega (arith, ints, large)
  ],
  p,
)
open_beside Min e some p = (
  p,
  elim (small_or_not e.above) [
    | inl is ↦ (small e some (p, is)).1.0
    | inr large ↦ omega (arith, ints, large)
  ],
)

within_beside : (o : Op) (e : Ends) → AreWithin 1 e → IsBeside o e
within_beside Add e p = p
within_beside Max e p = (p.0.0, p.1.1)
within_beside Min e p = (p.0.1, p.1.0)

min_above : (l x y : ℤ) → l ≤ℤ x → l ≤ℤ y → l ≤ℤ int_min x y
min_above l x y p q = grind (arith, ints)

min_first : (t x y : ℤ) → x ≤ℤ t → int_min x y ≤ℤ t
min_first t x y p = grind (arith, ints)

min_second : (t x y : ℤ) → y ≤ℤ t → int_min x y ≤ℤ t
min_second t x y p = grind (arith, ints)

max_below : (t x y : ℤ) → x ≤ℤ t → y ≤ℤ t → int_max x y ≤ℤ t
max_below t x y p q = grind (arith, ints)

max_first : (l x y : ℤ) → l ≤ℤ x → l ≤ℤ int_max x y
max_first l x y p = grind (arith, ints)

max_second : (l x y : ℤ) → l ≤ℤ y → l ≤ℤ int_max x y
max_second l x y p = grind (arith, ints)

small_first : (o : Op) (x y : Ends) → is_add o ≡ false → AreWithin 1 x → IsBeside o y → AreWithin 1 (plain_by (Fold o) x y)
small_first Add x y e p q = never_added e
small_first Max x y e p q =
    ((min_above _ _ _ p.0.0 q.0, min_first _ _ _ p.0.1), (max_first _ _ _ p.1.0, max_below _ _ _ p.1.1 q.1))
small_first Min x y e p q =
    ((max_first _ _ _ p.0.0, max_below _ _ _ p.0.1 q.0), (min_above _ _ _ p.1.0 q.1, min_first _ _ _ p.1.1))

small_second : (o : Op) (x y : Ends) → is_add o ≡ false → IsBeside o x → AreWithin 1 y → AreWithin 1 (plain_by (Fold o) x y)
small_second Add x y e p q = never_added e
small_second Max x y e p q =
    ((min_above _ _ _ p.0 q.0.0, min_second _ _ _ q.0.1), (max_second _ _ _ q.1.0, max_below _ _ _ p.1 q.1.1))
small_second Min x y e p q =
    ((max_second _ _ _ q.0.0, max_below _ _ _ p.0 q.0.1), (min_above _ _ _ p.1 q.1.0, min_second _ _ _ q.1.1))

held_some : (p : Part) (s : EachOf Ends) → AreSomeEnds s → IsSomeEnds (held_ends p s)
held_some Whole s some = some.0
held_some Away s some = some.1

open_some : (p : Part) (s : EachOf Ends) → AreSomeEnds s → IsSomeEnds (open_ends p s)
open_some Whole s some = some.2
open_some Away s some = some.3

module _ (a b : EachOf Ends) where
  -- each register and number in a glue expression is small
  abbrev AreSmallIn : Glue → Type 0
  AreSmallIn (Left f) = AreWithin 1 (value_in plain_values a (pos 0) (pos 0) f)
  AreSmallIn (Right f) = AreWithin 1 (value_in plain_values b (pos 0) (pos 0) f)
  AreSmallIn (Number x) = IsWithin 1 x
  AreSmallIn (With o u v) = AreSmallIn u × AreSmallIn v

  within_words : (u : Glue) → IsNarrow u → AreSmallIn u → AreWithin (words u) (glue_in plain_values a b u)
  within_words (Left f) n h = h
  within_words (Right f) n h = h
  within_words (Number x) n h = number_within x h
  within_words (With o u v) n h = both_within o (words u) (words v) _ _ n.0 (within_words u n.2 h.0) (within_words v n.3 h.1)

  small_takes : (u : Glue) → IsNarrow u → AreSmallIn u → GlueTakes TakesPlain plain_values a b u
  small_takes (Left f) n h = word_taken f a n
  small_takes (Right f) n h = word_taken f b n
  small_takes (Number x) n h = tt
  small_takes (With o u v) n h = (
    small_takes u n.2 h.0,
    small_takes v n.3 h.1,
    both_taken o (words u) (words v) _ _ n.0 n.1 (within_words u n.2 h.0) (within_words v n.3 h.1),
  )

  free_takes : (u : Glue) → AddsNever u → GlueTakes TakesPlain plain_values a b u
  free_takes (Left f) h = word_taken f a h
  free_takes (Right f) h = word_taken f b h
  free_takes (Number x) h = tt
  free_takes (With o u v) h = (free_takes u h.1, free_takes v h.2, free_taken o _ _ h.0)

  module _ (some_a : AreSomeEnds a) (some_b : AreSomeEnds b) where
    -- what is held of a part is small where it is folded, and what may come to it where that is small
    left_in : (k : Part) → ArePlain (held_ends k a) → AreWithin 1 (held_ends k a)
    left_in k = small (held_ends k a) (held_some k a some_a)

    right_in : (k : Part) → ArePlain (held_ends k b) → AreWithin 1 (held_ends k b)
    right_in k = small (held_ends k b) (held_some k b some_b)

    left_comes : (k : Part) → ArePlain (open_ends k a) → AreWithin 1 (open_ends k a)
    left_comes k = small (open_ends k a) (open_some k a some_a)

    right_comes : (k : Part) → ArePlain (open_ends k b) → AreWithin 1 (open_ends k b)
    right_comes k = small (open_ends k b) (open_some k b some_b)

    left_beside : (k : Part) (o : Op) → IsOpenPlain o (open_ends k a) → IsBeside o (open_ends k a)
    left_beside k o = open_beside o (open_ends k a) (open_some k a some_a)

    right_beside : (k : Part) (o : Op) → IsOpenPlain o (open_ends k b) → IsBeside o (open_ends k b)
    right_beside k o = open_beside o (open_ends k b) (open_some k b some_b)

    fold_small : (k : Part) (d : ℤ) (trims l r : Bool) → IsWithin 1 d → IsWithin 1 (neg_ℤ d) → ArePlain (open_ends k a) → ArePlain (open_ends k b) →
        (folds_held trims l ≡ true → ArePlain (held_ends k a)) → (folds_held trims r ≡ true → ArePlain (held_ends k b)) → AreSmallIn (folded Add k d trims l r)
    fold_small k d true true true w n p q s t = ((((left_in k (s refl), left_comes k p), w), right_in k (t refl)), right_comes k q)
    fold_small k d true true false w n p q s t = (((left_in k (s refl), left_comes k p), w), right_comes k q)
    fold_small k d true false true w n p q s t = (((left_comes k p, w), right_in k (t refl)), right_comes k q)
    fold_small k d true false false w n p q s t = ((left_comes k p, w), right_comes k q)
    fold_small k d false l r w n p q s t =
        (((left_in k (s refl), left_comes k p), (right_in k (t refl), right_comes k q)), n)

    -- of cells that may be none the one that goes with a small number is small
    fold_one : (k : Part) (o : Op) (d : ℤ) (trims l r : Bool) → is_add o ≡ false → IsWithin 1 d →
        IsOpenPlain o (open_ends k a) → IsOpenPlain o (open_ends k b) →
        (folds_held trims l ≡ true → ArePlain (held_ends k a)) → (folds_held trims r ≡ true → ArePlain (held_ends k b)) →
        AreWithin 1 (glue_in plain_values a b (folded o k d trims l r))
    fold_one k o d true true true e w p q s t =
        small_first o _ _ e
        (small_first o _ _ e
        (small_first o _ _ e (small_first o _ _ e (left_in k (s refl)) (left_beside k o p)) (within_beside o _ (number_within d w)))
        (within_beside o _ (right_in k (t refl)))) (right_beside k o q)
    fold_one k o d true true false e w p q s t =
        small_first o _ _ e
        (small_first o _ _ e (small_first o _ _ e (left_in k (s refl)) (left_beside k o p)) (within_beside o _ (number_within d w)))
        (right_beside k o q)
    fold_one k o d true false true e w p q s t =
        small_first o _ _ e
        (small_first o _ _ e (small_second o _ _ e (left_beside k o p) (number_within d w)) (within_beside o _ (right_in k (t refl))))
        (right_beside k o q)
    fold_one k o d true false false e w p q s t =
        small_first o _ _ e (small_second o _ _ e (left_beside k o p) (number_within d w)) (right_beside k o q)
    fold_one k Add d false l r e w p q s t = never_added e
    fold_one k Max d false l r e w p q s t =
        small_first Max _ _ e (small_first Max _ _ e (left_in k (s refl)) (left_beside k Max p))
        (within_beside Max _ (small_first Max _ _ e (right_in k (t refl)) (right_beside k Max q)))
    fold_one k Min d false l r e w p q s t =
        small_first Min _ _ e (small_first Min _ _ e (left_in k (s refl)) (left_beside k Min p))
        (within_beside Min _ (small_first Min _ _ e (right_in k (t refl)) (right_beside k Min q)))

    fold_narrow : (k : Part) (o : Op) (d : ℤ) (trims l r : Bool) → IsNarrow (folded o k d trims l r)
    fold_narrow k o d true true true = search rules
    fold_narrow k o d true true false = search rules
    fold_narrow k o d true false true = search rules
    fold_narrow k o d true false false = search rules
    fold_narrow k Add d false l r = search rules
    fold_narrow k Max d false l r = search rules
    fold_narrow k Min d false l r = search rules

    fold_words : (k : Part) (o : Op) (d : ℤ) (trims l r : Bool) → words (folded o k d trims l r) ≤ 5
    fold_words k o d true true true = omega arith
    fold_words k o d true true false = omega arith
    fold_words k o d true false true = omega arith
    fold_words k o d true false false = omega arith
    fold_words k Add d false l r = omega arith
    fold_words k Max d false l r = omega arith
    fold_words k Min d false l r = omega arith

    fold_free : (k : Part) (o : Op) (d : ℤ) (trims l r : Bool) → is_add o ≡ false → AddsNever (folded o k d trims l r)
    fold_free k o d true true true e = search rules
    fold_free k o d true true false e = search rules
    fold_free k o d true false true e = search rules
    fold_free k o d true false false e = search rules
    fold_free k Add d false l r e = never_added e
    fold_free k Max d false l r e = search rules
    fold_free k Min d false l r e = search rules

    fold_folds : (k : Part) (o : Op) (d : ℤ) (trims l r : Bool) → OfFolds (folded o k d trims l r)
    fold_folds k o d true true true = search rules
    fold_folds k o d true true false = search rules
    fold_folds k o d true false true = search rules
    fold_folds k o d true false false = search rules
    fold_folds k Add d false l r = search rules
    fold_folds k Max d false l r = search rules
    fold_folds k Min d false l r = search rules

    worth_small : (x : ℤ) → IsCellValue x → IsWithin 1 x × IsWithin 1 (neg_ℤ x)
    worth_small x h = (cell_within x h, cell_within (neg_ℤ x) (cell_neg x h))

    extreme_within : (k : Part) (o : Op) (g : Gluing) → IsCellValue g.worth → is_add o ≡ false → IsFoldPlain k o g a b →
        AreWithin 1 (glue_in plain_values a b (folded o k g.worth g.trims g.held_left g.held_right))
        × GlueTakes TakesPlain plain_values a b (folded o k g.worth g.trims g.held_left g.held_right)
    extreme_within k o g h e f = (
      fold_one k o g.worth g.trims g.held_left g.held_right e (worth_small g.worth h).0 f.left_open f.right_open f.left_held f.right_held,
      free_takes (folded o k g.worth g.trims g.held_left g.held_right) (fold_free k o g.worth g.trims g.held_left g.held_right e),
    )

    fold_within : (k : Part) (o : Op) (g : Gluing) → IsCellValue g.worth → IsFoldPlain k o g a b →
        AreWithin 5 (glue_in plain_values a b (folded o k g.worth g.trims g.held_left g.held_right))
        × GlueTakes TakesPlain plain_values a b (folded o k g.worth g.trims g.held_left g.held_right)
    fold_within k Add g h f =
        let w = worth_small g.worth h in let u = folded Add k g.worth g.trims g.held_left g.held_right in
        let n = fold_narrow k Add g.worth g.trims g.held_left g.held_right in
        let small = fold_small k g.worth g.trims g.held_left g.held_right w.0 w.1 f.left_open f.right_open f.left_held f.right_held in
        (are_within (words u) _ (fold_words k Add g.worth g.trims g.held_left g.held_right) (within_words u n small), small_takes u n small)
    fold_within k Max g h f = let u = extreme_within k Max g h refl f in (are_within 1 _ (omega arith) u.0, u.1)
    fold_within k Min g h f = let u = extreme_within k Min g h refl f in (are_within 1 _ (omega arith) u.0, u.1)

    folds_taken : (g : Gluing) (h : IsCellValue g.worth) → (is_add g.fold ≡ true → IsFoldPlain Whole g.fold g a b) → (v : Bool) → is_add g.fold ≡ v →
        GlueTakes TakesPlain plain_values a b (folded g.fold Whole g.worth g.trims g.held_left g.held_right)
    folds_taken g h plain true e = (fold_within Whole g.fold g h (plain e)).1
    folds_taken g h plain false e =
        free_takes (folded g.fold Whole g.worth g.trims g.held_left g.held_right) (fold_free Whole g.fold g.worth g.trims g.held_left g.held_right e)

    left_or : (u v : Bool) → u ≡ true → (u || v) ≡ true
    left_or u v e = ap (λ z. z || v) e

    right_or : (u v : Bool) → v ≡ true → (u || v) ≡ true
    right_or true v e = refl
    right_or false v e = e

    -- results with what is folded
    with_results : (o : Op) (u : Glue) → (is_add o ≡ true → ArePlain a.r × ArePlain b.r) → (is_add o ≡ true → AreWithin 5 (glue_in plain_values a b u)) →
        GlueTakes TakesPlain plain_values a b u → (v : Bool) → is_add o ≡ v → GlueTakes TakesPlain plain_values a b (join_of o u)
    with_results o u results few takes true e =
        let rs = results e in let ar = small a.r some_a.4 rs.0 in let br = small b.r some_b.4 rs.1 in (
          (tt, tt, both_taken (Fold o) 1 1 a.r b.r (omega arith) (omega arith) ar br),
          takes,
          both_taken (Fold o) 2 5 (plain_by (Fold o) a.r b.r) _ (omega arith) (omega arith) (both_within (Fold o) 1 1 a.r b.r (omega arith) ar br) (few e),
        )
    with_results o u results few takes false e = ((tt, tt, free_taken (Fold o) a.r b.r e), takes, free_taken (Fold o) _ _ e)

    -- what is folded: of wide automata the greatest of cells less the least
    fold_taken : (g : Gluing) → IsCellValue g.worth → IsPlain g a b → g.joins ≡ true → (wide : Bool) → g.wide ≡ wide →
        GlueTakes TakesPlain plain_values a b (fold_of wide g.fold (part_by g))
        × (is_add g.result ≡ true → AreWithin 5 (glue_in plain_values a b (fold_of wide g.fold (part_by g))))
    fold_taken g h plain j false w = (
      folds_taken g h (λ z. plain.folded j (right_or g.wide _ (right_or (is_add g.result) (is_add g.fold) z))) (is_add g.fold) refl,
      λ e. (fold_within Whole g.fold g h (plain.folded j (right_or g.wide _ (left_or (is_add g.result) (is_add g.fold) e)))).0,
    )
    fold_taken g h plain j true w =
        let s = plain.away j w in
        let u = extreme_within Whole g.fold g h s.0 (plain.folded j (left_or g.wide (is_add g.result || is_add g.fold) w)) in
        let v = extreme_within Away Min g h refl s.1 in (
          (u.1, v.1, both_taken Sub 1 1 _ _ (omega arith) (omega arith) u.0 v.0),
          λ e. are_within 2 _ (omega arith) (both_within Sub 1 1 _ _ (omega arith) u.0 v.0),
        )

    joined_taken : (g : Gluing) → IsCellValue g.worth → IsPlain g a b → g.joins ≡ true → (wide : Bool) → g.wide ≡ wide →
        GlueTakes TakesPlain plain_values a b (join_of g.result (fold_of wide g.fold (part_by g)))
    joined_taken g h plain j wide w =
        let taken = fold_taken g h plain j wide w in
        with_results g.result (fold_of wide g.fold (part_by g)) plain.results taken.1 taken.0 (is_add g.result) refl

    -- what is held: of wide automata C less E
    abbrev held_value : Bool → EachOf Ends → Ends
    held_value wide s = value_in plain_values s (pos 0) (pos 0) (held_of wide)

    in_two : (x : ℤ) → IsWithin 1 x → IsWithin 2 x
    in_two x h = let a = h.0 in let b = h.1 in (omega (arith, ints, a, b), omega (arith, ints, a, b))

    c_within : (s : EachOf Ends) → AreSomeEnds s → (ArePlain s.c ⊎ ((true ≡ false) × IsInfinity s.c)) → AreWithin 2 s.c
    c_within s some (inl c) = let p = small s.c some.0 c in (in_two s.c.below p.0, in_two s.c.above p.1)
    c_within s some (inr free) = never_added free.0

    less_taken : (sum : Bool) (s : EachOf Ends) → AreSomeEnds s → ArePlain s.e → (ArePlain s.c ⊎ ((sum ≡ false) × IsInfinity s.c)) →
        TakesPlain Sub s.c s.e × (sum ≡ true → AreWithin 2 (plain_by Sub s.c s.e))
    less_taken sum s some e (inl c) =
        let x = small s.c some.0 c in let y = small s.e some.1 e in
        (both_taken Sub 1 1 s.c s.e (omega arith) (omega arith) x y, λ h. both_within Sub 1 1 s.c s.e (omega arith) x y)
    less_taken sum s some e (inr free) = (
      (λ h. never_added (sym (far_infinity s.c free.1) ∙ h), λ h. free.1, are_within 1 s.e (omega arith) (small s.e some.1 e)),
      λ h. never_added (sym h ∙ free.0),
    )

    abbrev IsKept : Bool → Bool → EachOf Ends → Type 0
    IsKept wide sum s = Takes TakesPlain plain_values s (pos 0) (pos 0) (held_of wide) × (sum ≡ true → AreWithin 2 (held_value wide s))

    kept_taken : (wide sum : Bool) (s : EachOf Ends) → AreSomeEnds s → IsHeldPlain wide sum s → IsKept wide sum s
    kept_taken false true s some h = (tt, λ e. c_within s some (h.1 refl))
    kept_taken false false s some h = (tt, λ e. never_added (sym e))
    kept_taken true sum s some h = let taken = less_taken sum s some (h.0 refl) (h.1 refl) in ((tt, tt, taken.0), taken.1)

    apart_taken : (g : Gluing) → IsPlain g a b → g.joins ≡ false → (v : Bool) → is_add g.result ≡ v →
        GlueTakes TakesPlain plain_values a b (apart g.wide g.result)
    apart_taken g plain j v e =
        let h = plain.held j in
        by_sum v e (kept_taken g.wide (is_add g.result) a some_a h.0) (kept_taken g.wide (is_add g.result) b some_b h.1)
      where
        o : Operator
        o = Fold g.result

        by_sum : (v : Bool) → is_add g.result ≡ v → IsKept g.wide (is_add g.result) a → IsKept g.wide (is_add g.result) b →
            GlueTakes TakesPlain plain_values a b (apart g.wide g.result)
        by_sum true e p q =
            let rs = plain.results e in let ar = small a.r some_a.4 rs.0 in let br = small b.r some_b.4 rs.1 in
            let x = held_value g.wide a in let y = held_value g.wide b in (
              (tt, p.0, both_taken o 1 2 a.r x (omega arith) (omega arith) ar (p.1 e)),
              (tt, q.0, both_taken o 1 2 b.r y (omega arith) (omega arith) br (q.1 e)),
              both_taken o 3 3 (plain_by o a.r x) (plain_by o b.r y) (omega arith) (omega arith)
                  (both_within o 1 2 a.r x (omega arith) ar (p.1 e)) (both_within o 1 2 b.r y (omega arith) br (q.1 e)),
            )
        by_sum false e p q = ((tt, p.0, free_taken o _ _ e), (tt, q.0, free_taken o _ _ e), free_taken o _ _ e)

    plain_by_shape : (g : Gluing) → IsCellValue g.worth → IsPlain g a b → (joins : Bool) → g.joins ≡ joins →
        GlueTakes TakesPlain plain_values a b (cond joins (join_of g.result (fold_of g.wide g.fold (part_by g))) (apart g.wide g.result))
    plain_by_shape g h plain true j = joined_taken g h plain j g.wide refl
    plain_by_shape g h plain false j = apart_taken g plain j (is_add g.result) refl

    pub plain_takes : (g : Gluing) → IsCellValue g.worth → IsPlain g a b → GlueTakes TakesPlain plain_values a b (expression g)
    plain_takes g h plain = plain_by_shape g h plain g.joins refl

    abbrev by_joins : (g : Gluing) → Bool → Type 0
    by_joins g j = GlueTakes TakesPlain plain_values a b (cond j (joined_expression g) (apart g.wide g.result))

    pub plain_apart : (g : Gluing) → IsCellValue g.worth → IsPlain g a b → g.joins ≡ false →
        GlueTakes TakesPlain plain_values a b (apart g.wide g.result)
    plain_apart g h plain e = subst (by_joins g) e (plain_takes g h plain)

    pub plain_joined : (g : Gluing) → IsCellValue g.worth → IsPlain g a b → g.joins ≡ true →
        GlueTakes TakesPlain plain_values a b (joined_expression g)
    plain_joined g h plain e = subst (by_joins g) e (plain_takes g h plain)

    -- nothing is taken away from an infinity where one occurrence goes on: in a wide one the greatest of its cells is small

    near_word : (f : Formula) (s : EachOf Ends) → IsWord f → Takes TakesNear plain_values s (pos 0) (pos 0) f
    near_word (Leaf w) s h = tt
    near_word (Join o f g) s h = absurd h

    near_folds : (u : Glue) → OfFolds u → GlueTakes TakesPlain plain_values a b u → GlueTakes TakesNear plain_values a b u
    near_folds (Left f) n h = near_word f a n
    near_folds (Right f) n h = near_word f b n
    near_folds (Number x) n h = tt
    near_folds (With (Fold o) u v) n h = (near_folds u n.0 h.0, near_folds v n.1 h.1, (h.2, tt))
    near_folds (With Sub u v) n h = absurd n

    near_part : (k : Part) (o : Op) (g : Gluing) → GlueTakes TakesPlain plain_values a b (folded o k g.worth g.trims g.held_left g.held_right) →
        GlueTakes TakesNear plain_values a b (folded o k g.worth g.trims g.held_left g.held_right)
    near_part k o g h =
        near_folds (folded o k g.worth g.trims g.held_left g.held_right) (fold_folds k o g.worth g.trims g.held_left g.held_right) h

    near_by : (g : Gluing) → IsCellValue g.worth → IsPlain g a b → g.joins ≡ true → (wide : Bool) → g.wide ≡ wide →
        GlueTakes TakesNear plain_values a b (join_of g.result (fold_of wide g.fold (part_by g)))
    near_by g h plain j false w = let t = joined_taken g h plain j false w in ((tt, tt, (t.0.2, tt)), near_part Whole g.fold g t.1, (t.2, tt))
    near_by g h plain j true w =
        let s = plain.away j w in let t = joined_taken g h plain j true w in
        let u = extreme_within Whole g.fold g h s.0 (plain.folded j (left_or g.wide (is_add g.result || is_add g.fold) w)) in (
          (tt, tt, (t.0.2, tt)),
          (near_part Whole g.fold g t.1.0, near_part Away Min g t.1.1, (t.1.2, near_small _ (are_within 1 _ (omega arith) u.0))),
          (t.2, tt),
        )

    pub near_joined : (g : Gluing) → IsCellValue g.worth → IsPlain g a b → g.joins ≡ true →
        GlueTakes TakesNear plain_values a b (joined_expression g)
    near_joined g h plain j = near_by g h plain j g.wide refl

-- nothing is taken away from an infinity where C is held
held_near : (s : EachOf Ends) → AreSomeEnds s → ArePlain s.c → is_far s.c ≡ false
held_near s some plain = near_small s.c (are_within 1 s.c (omega arith) (small s.c some.0 plain))

pub near_held : (wide : Bool) (o : Op) (s : EachOf Ends) → AreSomeEnds s → (wide ≡ true → ArePlain s.c) →
    Takes TakesPlain plain_values s (pos 0) (pos 0) (result_of wide o) → Takes TakesNear plain_values s (pos 0) (pos 0) (held_of wide)
near_held false o s some plain h = tt
near_held true o s some plain h = (tt, tt, (h.1.2, held_near s some (plain refl)))

-- where it isn't, the answer is R

under_high : (x : ℤ) → SFits w64 x → int_min x (pos 9223372036854775807) ≡ x
under_high x fits = grind (arith, ints, fits)

over_low : (x : ℤ) → least <ℤ x → int_max x (negsuc 9223372036854775806) ≡ x
over_low x above = grind (arith, ints, above)

neutral_kept : (o : Op) (r c : Ends) → SFits w64 r.below → SFits w64 r.above → IsSomeEnds r → IsNeutral o c → plain_by (Fold o) r c ≡ r
neutral_kept Add r c f g some n = absurd n
neutral_kept Max r c f g some n =
    same_ends _ _ _ _ (ap (int_min r.below) n.0 ∙ under_high r.below f) (ap (int_max r.above) n.1 ∙ over_low r.above some.above)
neutral_kept Min r c f g some n =
    same_ends _ _ _ _ (ap (int_max r.below) n.0 ∙ over_low r.below some.below) (ap (int_min r.above) n.1 ∙ under_high r.above g)

neutral_far : (o : Op) (c : Ends) → IsNeutral o c → is_far c ≡ true
neutral_far Add c n = absurd n
neutral_far Max c n = far_infinity c (inl n)
neutral_far Min c n = far_infinity c (inr n)

pub unheld_answer : (wide : Bool) (o : Op) (s : EachOf Ends) → SFits w64 s.r.below → SFits w64 s.r.above → IsSomeEnds s.r → IsNeutral o s.c →
    s.r ≡ value_in plain_values s (pos 0) (pos 0) (result_of wide o)
unheld_answer false o s f g some n = sym (neutral_kept o s.r s.c f g some n)
unheld_answer true o s f g some n =
    sym
    (ap (λ b. plain_by (Fold o) s.r (cond b s.c (sum_of_ends s.c (crossed s.e)))) (neutral_far o s.c n)
    ∙ neutral_kept o s.r s.c f g some n)

-- what lies on both sides of a cell, folded step by step

module _ (m : Values Ends) (P : Operator → Ends → Ends → Type 0) (a b : EachOf Ends) (o : Op) where
  pub glue_if : (t : Bool) (u v : Glue) → glue_in m a b (cond t u v) ≡ cond t (glue_in m a b u) (glue_in m a b v)
  glue_if true u v = refl
  glue_if false u v = refl

  -- what the left side has of a part, and that with the cell
  abbrev pub left_of : Part → Bool → Glue
  left_of p l = opened o l (Left (held_in p)) (Left (open_in p))

  abbrev pub to_cell : Part → Bool → ℤ → Glue
  to_cell p l d = With (Fold o) (left_of p l) (Number d)

  onto : (r : Bool) (u c d : Glue) → GlueTakes P m a b (then_opened o u r c d) → GlueTakes P m a b u
  onto true u c d h = h.0.0
  onto false u c d h = h.0

  pub cell_taken : (p : Part) (l r : Bool) (d : ℤ) → GlueTakes P m a b (folded_between o p l r d) → (x n : Ends) →
      x ≡ glue_in m a b (left_of p l) → n ≡ m.constant (Int d) → P (Fold o) x n
  cell_taken p l r d h x n is1 is2 =
      subst (λ z. P (Fold o) z n) (sym is1)
      (subst (P (Fold o) (glue_in m a b (left_of p l))) (sym is2) (onto r (to_cell p l d) (Right (held_in p)) (Right (open_in p)) h).2)

  pub held_taken : (p : Part) (l r : Bool) (d : ℤ) → GlueTakes P m a b (folded_between o p l r d) → r ≡ true → (x e : Ends) →
      x ≡ glue_in m a b (to_cell p l d) → e ≡ value_in m b (pos 0) (pos 0) (held_in p) → P (Fold o) x e
  held_taken p l r d h is x e is1 is2 =
      subst (λ z. P (Fold o) z e) (sym is1)
      (subst (P (Fold o) (glue_in m a b (to_cell p l d))) (sym is2)
      (subst (λ z. GlueTakes P m a b (folded_between o p l z d)) is h).0.2)

  pub open_taken : (p : Part) (l r : Bool) (d : ℤ) → GlueTakes P m a b (folded_between o p l r d) → (x e : Ends) →
      x ≡ cond r (m.join (Fold o) (glue_in m a b (to_cell p l d)) (value_in m b (pos 0) (pos 0) (held_in p))) (glue_in m a b (to_cell p l d)) →
      e ≡ value_in m b (pos 0) (pos 0) (open_in p) → P (Fold o) x e
  open_taken p l r d h x e is1 is2 =
      let to = to_cell p l d in let whole = With (Fold o) to (Right (held_in p)) in
      subst (λ z. P (Fold o) z e) (sym (is1 ∙ sym (glue_if r whole to))) (subst (P (Fold o) (glue_in m a b (cond r whole to))) (sym is2) h.2)

  pub between_steps : (p : Part) (l r : Bool) (d : ℤ) (x e z : Ends) →
      x ≡ cond r (m.join (Fold o) (glue_in m a b (to_cell p l d)) (value_in m b (pos 0) (pos 0) (held_in p))) (glue_in m a b (to_cell p l d)) →
      e ≡ value_in m b (pos 0) (pos 0) (open_in p) → z ≡ m.join (Fold o) x e → z ≡ glue_in m a b (folded_between o p l r d)
  between_steps p l r d x e z is1 is2 is3 =
      let to = to_cell p l d in let whole = With (Fold o) to (Right (held_in p)) in
      is3 ∙ ap (λ y. m.join (Fold o) y e) (is1 ∙ sym (glue_if r whole to)) ∙ ap (m.join (Fold o) (glue_in m a b (cond r whole to))) is2

-- what both sides have folded

abbrev pub side_by_side : Op → Part → Glue
side_by_side o p = With (Fold o) (With (Fold o) (Left (held_in p)) (Left (open_in p))) (With (Fold o) (Right (held_in p)) (Right (open_in p)))

pub side_by_side_taken : (m : Values Ends) (P : Operator → Ends → Ends → Type 0) (a b : EachOf Ends) (o : Op) (p : Part) (d : ℤ) →
    GlueTakes P m a b (folded_both o p d) → GlueTakes P m a b (side_by_side o p)
side_by_side_taken m P a b Add p d h = h.0
side_by_side_taken m P a b Max p d h = h
side_by_side_taken m P a b Min p d h = h

pub once_is : (m : Values Ends) (a b : EachOf Ends) (o : Op) (d : ℤ) (u : Glue) →
    once m o (glue_in m a b u) (m.constant (Int (neg_ℤ d))) ≡ glue_in m a b (counted_once o d u)
once_is m a b Add d u = refl
once_is m a b Max d u = refl
once_is m a b Min d u = refl

-- what stands for what is glued of parts that are known stands for the glued span

pub known_apart : (f g : Gluing) (a b : EachOf Span) (e : Ends) → f ≡ g → g.joins ≡ false →
    IsPackOf e (glue_in sealed_spans a b (apart f.wide f.result)) → IsPackOf e (glue_in sealed_spans a b (expression g))
known_apart f g a b e is none p =
    subst (λ z. IsPackOf e (glue_in sealed_spans a b (cond z (joined_expression g) (apart g.wide g.result)))) (sym none)
    (subst (λ z. IsPackOf e (glue_in sealed_spans a b (apart z.wide z.result))) is p)

pub known_joined : (f g : Gluing) (a b : EachOf Span) (e : Ends) → f ≡ g → g.joins ≡ true →
    IsPackOf e (glue_in sealed_spans a b (joined_expression f)) → IsPackOf e (glue_in sealed_spans a b (expression g))
known_joined f g a b e is joins p =
    subst (λ z. IsPackOf e (glue_in sealed_spans a b (cond z (joined_expression g) (apart g.wide g.result)))) (sym joins)
    (subst (λ z. IsPackOf e (glue_in sealed_spans a b (joined_expression z))) is p)

-- how a pair of states is glued is its expression

-- where one occurrence goes on, by its seam

pub seam_told : (p : Pair) (q r : ℕ) (x d : ℤ) (s : Seam) (u : Glue) (o : Op) → o ≡ result_op p → d ≡ worth p.table.unit x →
    Through s ≡ shape_of p q r → u ≡ glue_by o p.table.op d (Through s) → u ≡ glue_of p q r x
seam_told p q r x d s u o e f is told =
    told
    ∙ ap (λ z. glue_by z p.table.op d (Through s)) e ∙ ap (λ z. glue_by (result_op p) p.table.op z (Through s)) f
    ∙ ap (glue_by (result_op p) p.table.op (worth p.table.unit x)) is ∙ shape_is p q r x

-- whether one goes on is in the shape

pub goes_on_is : (p : Pair) (q r : ℕ) → goes_on (shape_of p q r) ≡ is_join p.table q r
goes_on_is p q r = go (is_join p.table q r)
  where
    go : (b : Bool) →
        goes_on (cond b (Through (seam_of p.table.a (node_at p.forward.states q).held (node_at p.reverse.states r).held)) NoJoin) ≡ b
    go true = refl
    go false = refl

pub none_goes_on : (p : Pair) (q r : ℕ) (s : Shape) → s ≡ shape_of p q r → s ≡ NoJoin → is_join p.table q r ≡ false
none_goes_on p q r s is none = sym (goes_on_is p q r) ∙ ap goes_on (sym is) ∙ ap goes_on none

-- between states from the one of which no occurrence goes on to the other, the value isn't in the expression
pub apart_is : (p : Pair) (q r : ℕ) (x : ℤ) (g : Gluing) → g.result ≡ result_op p → g.wide ≡ is_wide p → g.joins ≡ false → is_join p.table q r ≡ false →
    expression g ≡ glue_of p q r x
apart_is p q r x g e1 e2 e3 none =
    let l = (node_at p.forward.states q).held in let h = (node_at p.reverse.states r).held in
    let joined = join_of (result_op p) (fold_of (is_wide p) (fold_op p.table.op) (part_of p.table.a l h (worth p.table.unit x))) in
    ap (λ z. cond z (join_of g.result (fold_of g.wide g.fold (part_by g))) (apart g.wide g.result)) e3
    ∙ ap (λ z. apart g.wide z) e1 ∙ ap (λ z. apart z (result_op p)) e2
    ∙ sym (ap (λ z. cond z joined (apart (is_wide p) (result_op p))) none)
