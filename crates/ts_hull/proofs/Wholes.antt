-- A move that doesn't read the next cell is its fronts, whatever the next cell is.
use Rattle.std.proofs.Common.{◌≡◌, Bool, true, false, cond, not, ◌&&◌, ℤ, refl, ◌∙◌, ap}
use Rattle.std.proofs.lemmas.Bool.{not_from_false}
use Rattle.ts_base.specs.declared.span.Span.{Span}
use Rattle.ts_base.specs.declared.op.Op.{Op}
use Rattle.ts_automaton.specs.declared.expr.Operator.TheVariants.{Fold, Sub}
use Rattle.ts_automaton.specs.declared.regs.Hull.{Hull}
use Rattle.ts_automaton.specs.Formula.{Formula, Leaf, Join}
use Rattle.ts_automaton.specs.Body.{Move}
use Rattle.ts_automaton.specs.Registers.{each}
use Rattle.ts_automaton.proofs.Five.{five_parts}
use Rattle.ts_hull.specs.Hulls.{none}
use Rattle.ts_hull.specs.Sealed.{span_in, some_hull, after_move}
use Rattle.ts_hull.specs.Splits.{is_next_word, is_front, Split, FrontOf, TailOf, ByPairs, is_double, tail_of, split_formula, is_whole, front_span, closed_span}
use Rattle.ts_hull.specs.Cuts.{Cut, cut_of, all_whole, is_front_move, whole_cut, front_hull, closed_hull}
use Rattle.ts_hull.proofs.HullLaws.{same_hull}
use Rattle.ts_hull.proofs.SplitLaws.{front_word, front_same, after_is}

-- what isn't a front isn't whole
tail_apart : (o : Op) (e r : Formula) → is_whole (tail_of o e r) ≡ false
tail_apart o e (Leaf w) =
    elim (is_next_word w && is_front e) as (λ t. is_whole (cond t (TailOf o e) ByPairs) ≡ false) [ true ↦ refl | false ↦ refl ]
tail_apart o e (Join (Fold p) f r) =
    elim (is_double o p e f r) as (λ t. is_whole (cond t (TailOf o (Join (Fold o) e f)) ByPairs) ≡ false) [ true ↦ refl | false ↦ refl ]
tail_apart o e (Join Sub f r) = refl

whole_is : (e : Formula) (h : Hull) (x y : ℤ) → is_whole (split_formula e) ≡ true → span_in e h x y ≡ front_span (split_formula e) h x
whole_is (Leaf w) h x y d = go (is_next_word w) refl d
  where
    go : (t : Bool) → is_next_word w ≡ t → is_whole (cond t ByPairs (FrontOf (Leaf w))) ≡ true →
        span_in (Leaf w) h x y ≡ front_span (cond t ByPairs (FrontOf (Leaf w))) h x
    go true f d = cc
    go false f d = front_word w h x y (not_from_false (is_next_word w) f)
whole_is (Join (Fold o) e r) h x y d = go (is_front e && is_front r) refl d
  where
    whole : Formula
    whole = Join (Fold o) e r

    go : (t : Bool) → (is_front e && is_front r) ≡ t → is_whole (cond t (FrontOf whole) (tail_of o e r)) ≡ true →
        span_in whole h x y ≡ front_span (cond t (FrontOf whole) (tail_of o e r)) h x
    go true f d = front_same whole h x y f
    go false f d = let apart = tail_apart o e r in cc
whole_is (Join Sub e r) h x y d = go (is_front e && is_front r) refl d
  where
    whole : Formula
    whole = Join Sub e r

    go : (t : Bool) → (is_front e && is_front r) ≡ t → is_whole (cond t (FrontOf whole) ByPairs) ≡ true →
        span_in whole h x y ≡ front_span (cond t (FrontOf whole) ByPairs) h x
    go true f d = front_same whole h x y f
    go false f d = cc

pub moved_whole : (m : Move) (h : Hull) (x y : ℤ) → all_whole (cut_of m) ≡ true → after_move m h x y ≡ front_hull (cut_of m) h x
unfolding front_hull
moved_whole m h x y s =
    let k = cut_of m in
    let p = five_parts (is_whole k.c) (is_whole k.e) (is_whole k.d) (is_whole k.f) (is_whole k.r) s in
    after_is m h x y (some_hull h) refl
    ∙ ap (λ z. cond (some_hull h) z none)
    (same_hull (whole_is m.to.c h x y p.0) (whole_is m.to.e h x y p.1) (whole_is m.to.d h x y p.2) (whole_is m.to.f h x y p.3) (whole_is m.to.r h x y p.4))

closed_same : (p : Split) (s : Span) (y : ℤ) → is_whole p ≡ true → closed_span p s y ≡ s
closed_same (FrontOf e) s y h = refl
closed_same (TailOf o e) s y h = cc
closed_same ByPairs s y h = cc

-- the next cell makes nothing more of it
pub closed_whole : (k : Cut) (h : Hull) (y : ℤ) → all_whole k ≡ true → closed_hull k h y ≡ h
unfolding closed_hull
closed_whole k h y s =
    let p = five_parts (is_whole k.c) (is_whole k.e) (is_whole k.d) (is_whole k.f) (is_whole k.r) s in
    same_hull (closed_same k.c h.c y p.0) (closed_same k.e h.e y p.1) (closed_same k.d h.d y p.2) (closed_same k.f h.f y p.3) (closed_same k.r h.r y p.4)

front_split : (e : Formula) → is_front e ≡ true → split_formula e ≡ FrontOf e
front_split (Leaf w) f = go (is_next_word w) f
  where
    go : (t : Bool) → not t ≡ true → cond t ByPairs (FrontOf (Leaf w)) ≡ FrontOf (Leaf w)
    go true f = cc
    go false f = refl
front_split (Join (Fold o) e r) f = ap (λ t. cond t (FrontOf (Join (Fold o) e r)) (tail_of o e r)) f
front_split (Join Sub e r) f = ap (λ t. cond t (FrontOf (Join Sub e r)) ByPairs) f

pub same_cut : {c e d f r c' e' d' f' r' : Split} → c ≡ c' → e ≡ e' → d ≡ d' → f ≡ f' → r ≡ r' → ◌≡◌ {A = Cut} (each c e d f r) (each c' e' d' f' r')
same_cut p q s t u = cc

-- a move in which the next cell doesn't stand is split so
pub whole_split : (m : Move) → is_front_move m ≡ true → cut_of m ≡ whole_cut m
whole_split m f =
    let p = five_parts (is_front m.to.c) (is_front m.to.e) (is_front m.to.d) (is_front m.to.f) (is_front m.to.r) f in
    same_cut (front_split m.to.c p.0) (front_split m.to.e p.1) (front_split m.to.d p.2) (front_split m.to.f p.3) (front_split m.to.r p.4)
