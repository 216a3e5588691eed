-- The hull of spans and of hulls is associative and commutative, and a hull commutes with one value under a monotone operator.
use Rattle.std.proofs.Common.{◌≡◌, Bool, true, false, cond, ◌&&◌, refl, sym, ◌∙◌, ap}
use Rattle.ts_base.specs.declared.ext.Ext.{Ext}
use Rattle.ts_base.specs.declared.span.Span.{Span}
use Rattle.ts_base.specs.Numbers.{ext_le, ext_max, ext_min}
use Rattle.ts_base.specs.Orders.{IsMonotone}
use Rattle.ts_base.specs.Spans.{none_span, one_span, has_some}
use Rattle.ts_base.proofs.Order.{le_refl, le_trans, le_antisym, le_other, max_left, max_right, max_least, min_left, min_right, min_greatest}
use Rattle.ts_base.proofs.SpanLaws.{one_some}
use Rattle.ts_automaton.specs.declared.regs.Hull.{Hull}
use Rattle.ts_hull.specs.Hulls.{hull_of_both}
use Rattle.ts_hull.specs.Sealed.{span_from, least_span, by_ends, hull_with}
use Rattle.ts_hull.proofs.HullLaws.{same_hull}

max_comm : (a b : Ext) → ext_max a b ≡ ext_max b a
max_comm a b = le_antisym _ _ (max_least a b _ (max_right b a) (max_left b a)) (max_least b a _ (max_right a b) (max_left a b))

min_comm : (a b : Ext) → ext_min a b ≡ ext_min b a
min_comm a b = le_antisym _ _ (min_greatest b a _ (min_right a b) (min_left a b)) (min_greatest a b _ (min_right b a) (min_left b a))

pub max_assoc : (a b c : Ext) → ext_max (ext_max a b) c ≡ ext_max a (ext_max b c)
max_assoc a b c =
    let l = ext_max (ext_max a b) c in let r = ext_max a (ext_max b c) in
    le_antisym l r (max_least (ext_max a b) c r (max_least a b r (max_left a (ext_max b c))
    (le_trans b (ext_max b c) r (max_left b c) (max_right a (ext_max b c)))) (le_trans c (ext_max b c) r (max_right b c) (max_right a (ext_max b c))))
    (max_least a (ext_max b c) l (le_trans a (ext_max a b) l (max_left a b) (max_left (ext_max a b) c))
    (max_least b c l (le_trans b (ext_max a b) l (max_right a b) (max_left (ext_max a b) c)) (max_right (ext_max a b) c)))

pub min_assoc : (a b c : Ext) → ext_min (ext_min a b) c ≡ ext_min a (ext_min b c)
min_assoc a b c =
    let l = ext_min (ext_min a b) c in let r = ext_min a (ext_min b c) in
    le_antisym l r
    (min_greatest a (ext_min b c) l (le_trans l (ext_min a b) a (min_left (ext_min a b) c) (min_left a b))
    (min_greatest b c l (le_trans l (ext_min a b) b (min_left (ext_min a b) c) (min_right a b)) (min_right (ext_min a b) c)))
    (min_greatest (ext_min a b) c r (min_greatest a b r (min_left a (ext_min b c))
    (le_trans r (ext_min b c) b (min_right a (ext_min b c)) (min_left b c))) (le_trans r (ext_min b c) c (min_right a (ext_min b c)) (min_right b c)))

-- the hull of two that aren't none
abbrev pub both_hull : Span → Span → Span
both_hull s t = span_from (ext_min s.lo t.lo) (ext_max s.hi t.hi)

pub both_some : (s t : Span) → has_some s ≡ true → has_some (both_hull s t) ≡ true
both_some s t h = le_trans (ext_min s.lo t.lo) s.lo (ext_max s.hi t.hi) (min_left s.lo t.lo) (le_trans s.lo s.hi (ext_max s.hi t.hi) h (max_left s.hi t.hi))

pub hull_both : (s t : Span) → has_some s ≡ true → has_some t ≡ true → least_span s t ≡ both_hull s t
unfolding least_span
hull_both s t h k = ap (λ b. cond b (cond (has_some t) (both_hull s t) s) (cond (has_some t) t none_span)) h ∙ ap (λ b. cond b (both_hull s t) s) k

pub hull_first : (s t : Span) → has_some s ≡ true → has_some t ≡ false → least_span s t ≡ s
unfolding least_span
hull_first s t h k = ap (λ b. cond b (cond (has_some t) (both_hull s t) s) (cond (has_some t) t none_span)) h ∙ ap (λ b. cond b (both_hull s t) s) k

pub hull_second : (s t : Span) → has_some s ≡ false → has_some t ≡ true → least_span s t ≡ t
unfolding least_span
hull_second s t h k = ap (λ b. cond b (cond (has_some t) (both_hull s t) s) (cond (has_some t) t none_span)) h ∙ ap (λ b. cond b t none_span) k

pub hull_neither : (s t : Span) → has_some s ≡ false → has_some t ≡ false → least_span s t ≡ none_span
unfolding least_span
hull_neither s t h k = ap (λ b. cond b (cond (has_some t) (both_hull s t) s) (cond (has_some t) t none_span)) h ∙ ap (λ b. cond b t none_span) k

pub hull_comm : (s t : Span) → least_span s t ≡ least_span t s
hull_comm s t = go (has_some s) (has_some t) refl refl
  where
    go : (a b : Bool) → has_some s ≡ a → has_some t ≡ b → least_span s t ≡ least_span t s
    go true true h k = hull_both s t h k ∙ ap (λ z. span_from z (ext_max s.hi t.hi)) (min_comm s.lo t.lo)
        ∙ ap (span_from (ext_min t.lo s.lo)) (max_comm s.hi t.hi) ∙ sym (hull_both t s k h)
    go true false h k = hull_first s t h k ∙ sym (hull_second t s k h)
    go false true h k = hull_second s t h k ∙ sym (hull_first t s k h)
    go false false h k = hull_neither s t h k ∙ sym (hull_neither t s k h)

pub hull_assoc : (s t u : Span) → least_span (least_span s t) u ≡ least_span s (least_span t u)
hull_assoc s t u = go (has_some s) (has_some t) (has_some u) refl refl refl
  where
    go : (a b c : Bool) → has_some s ≡ a → has_some t ≡ b → has_some u ≡ c → least_span (least_span s t) u ≡ least_span s (least_span t u)
    go true true true h k l =
        ap (λ z. least_span z u) (hull_both s t h k) ∙ hull_both (both_hull s t) u (both_some s t h) l
        ∙ ap (λ z. span_from z (ext_max (ext_max s.hi t.hi) u.hi)) (min_assoc s.lo t.lo u.lo)
        ∙ ap (span_from (ext_min s.lo (ext_min t.lo u.lo))) (max_assoc s.hi t.hi u.hi)
        ∙ sym (ap (least_span s) (hull_both t u k l) ∙ hull_both s (both_hull t u) h (both_some t u k))
    go true true false h k l =
        ap (λ z. least_span z u) (hull_both s t h k) ∙ hull_first (both_hull s t) u (both_some s t h) l
        ∙ sym (ap (least_span s) (hull_first t u k l) ∙ hull_both s t h k)
    go true false c h k l = ap (λ z. least_span z u) (hull_first s t h k) ∙ by_last c l
      where
        by_last : (c : Bool) → has_some u ≡ c → least_span s u ≡ least_span s (least_span t u)
        by_last true l = sym (ap (least_span s) (hull_second t u k l))
        by_last false l = hull_first s u h l ∙ sym (ap (least_span s) (hull_neither t u k l) ∙ hull_first s none_span h refl)
    go false true true h k l = ap (λ z. least_span z u) (hull_second s t h k) ∙ hull_both t u k l
        ∙ sym (ap (least_span s) (hull_both t u k l) ∙ hull_second s (both_hull t u) h (both_some t u k))
    go false true false h k l = ap (λ z. least_span z u) (hull_second s t h k) ∙ hull_first t u k l
        ∙ sym (ap (least_span s) (hull_first t u k l) ∙ hull_second s t h k)
    go false false true h k l = ap (λ z. least_span z u) (hull_neither s t h k) ∙ hull_second none_span u refl l
        ∙ sym (ap (least_span s) (hull_second t u k l) ∙ hull_second s u h l)
    go false false false h k l = ap (λ z. least_span z u) (hull_neither s t h k) ∙ hull_neither none_span u refl l
        ∙ sym (ap (least_span s) (hull_neither t u k l) ∙ hull_neither s none_span h refl)

-- hulls of hulls, register by register

pub both_is : (h k : Hull) →
    hull_of_both h k ≡ hull_with (least_span h.c k.c) (least_span h.e k.e) (least_span h.d k.d) (least_span h.f k.f) (least_span h.r k.r)
unfolding hull_of_both least_span
both_is h k = refl

pub both_comm : (h k : Hull) → hull_of_both h k ≡ hull_of_both k h
both_comm h k =
    both_is h k ∙ same_hull (hull_comm h.c k.c) (hull_comm h.e k.e) (hull_comm h.d k.d) (hull_comm h.f k.f) (hull_comm h.r k.r) ∙ sym (both_is k h)

pub both_assoc : (h k l : Hull) → hull_of_both (hull_of_both h k) l ≡ hull_of_both h (hull_of_both k l)
both_assoc h k l =
    let left = hull_with (least_span h.c k.c) (least_span h.e k.e) (least_span h.d k.d) (least_span h.f k.f) (least_span h.r k.r) in
    let right = hull_with (least_span k.c l.c) (least_span k.e l.e) (least_span k.d l.d) (least_span k.f l.f) (least_span k.r l.r) in
    ap (λ z. hull_of_both z l) (both_is h k) ∙ both_is left l
    ∙ same_hull (hull_assoc h.c k.c l.c) (hull_assoc h.e k.e l.e) (hull_assoc h.d k.d l.d) (hull_assoc h.f k.f l.f) (hull_assoc h.r k.r l.r)
    ∙ sym (ap (hull_of_both h) (both_is k l) ∙ both_is h right)

-- an operator on spans

pub lifted_both : (op : Ext → Ext → Ext) (s t : Span) → has_some s ≡ true → has_some t ≡ true → by_ends op s t ≡ span_from (op s.lo t.lo) (op s.hi t.hi)
unfolding by_ends
lifted_both op s t h k = ap (λ b. cond (b && has_some t) (span_from (op s.lo t.lo) (op s.hi t.hi)) none_span) h
    ∙ ap (λ b. cond b (span_from (op s.lo t.lo) (op s.hi t.hi)) none_span) k

pub lifted_none_left : (op : Ext → Ext → Ext) (s t : Span) → has_some s ≡ false → by_ends op s t ≡ none_span
unfolding by_ends
lifted_none_left op s t h = ap (λ b. cond (b && has_some t) (span_from (op s.lo t.lo) (op s.hi t.hi)) none_span) h

pub lifted_none_right : (op : Ext → Ext → Ext) (s t : Span) → has_some t ≡ false → by_ends op s t ≡ none_span
unfolding by_ends
lifted_none_right op s t k = elim (has_some s) as (λ b. cond (b && has_some t) (span_from (op s.lo t.lo) (op s.hi t.hi)) none_span ≡ none_span)
    [ true ↦ ap (λ b. cond b (span_from (op s.lo t.lo) (op s.hi t.hi)) none_span) k | false ↦ refl ]

pub lifted_some : (op : Ext → Ext → Ext) → IsMonotone op → (s t : Span) → has_some s ≡ true → has_some t ≡ true → has_some (by_ends op s t) ≡ true
lifted_some op m s t h k = ap has_some (lifted_both op s t h k) ∙ m s.lo s.hi t.lo t.hi h k

-- a monotone operator commutes with min and max of one operand
min_through : (op : Ext → Ext → Ext) → IsMonotone op → (a b y : Ext) → op (ext_min a b) y ≡ ext_min (op a y) (op b y)
min_through op m a b y = go (ext_le a b) refl
  where
    go : (t : Bool) → ext_le a b ≡ t → op (ext_min a b) y ≡ ext_min (op a y) (op b y)
    go true e =
        ap (λ v. op (cond v a b) y) e
        ∙ le_antisym (op a y) (ext_min (op a y) (op b y)) (min_greatest (op a y) (op b y) (op a y) (le_refl (op a y)) (m a b y y e (le_refl y)))
        (min_left (op a y) (op b y))
    go false e =
        ap (λ v. op (cond v a b) y) e
        ∙ le_antisym (op b y) (ext_min (op a y) (op b y)) (min_greatest (op a y) (op b y) (op b y) (m b a y y (le_other a b e) (le_refl y))
        (le_refl (op b y))) (min_right (op a y) (op b y))

max_through : (op : Ext → Ext → Ext) → IsMonotone op → (a b y : Ext) → op (ext_max a b) y ≡ ext_max (op a y) (op b y)
max_through op m a b y = go (ext_le a b) refl
  where
    go : (t : Bool) → ext_le a b ≡ t → op (ext_max a b) y ≡ ext_max (op a y) (op b y)
    go true e =
        ap (λ v. op (cond v b a) y) e
        ∙ le_antisym (op b y) (ext_max (op a y) (op b y)) (max_right (op a y) (op b y))
        (max_least (op a y) (op b y) (op b y) (m a b y y e (le_refl y)) (le_refl (op b y)))
    go false e =
        ap (λ v. op (cond v b a) y) e
        ∙ le_antisym (op a y) (ext_max (op a y) (op b y)) (max_left (op a y) (op b y))
        (max_least (op a y) (op b y) (op a y) (le_refl (op a y)) (m b a y y (le_other a b e) (le_refl y)))

-- a hull commutes with one value
pub hull_through : (op : Ext → Ext → Ext) → IsMonotone op → (s t : Span) (y : Ext) →
    by_ends op (least_span s t) (one_span y) ≡ least_span (by_ends op s (one_span y)) (by_ends op t (one_span y))
hull_through op m s t y = go (has_some s) (has_some t) refl refl
  where
    u : has_some (one_span y) ≡ true
    u = one_some y

    go : (a b : Bool) → has_some s ≡ a → has_some t ≡ b → by_ends op (least_span s t) (one_span y) ≡ least_span (by_ends op s (one_span y))
        (by_ends op t (one_span y))
    go true true h k =
        ap (λ z. by_ends op z (one_span y)) (hull_both s t h k) ∙ lifted_both op (both_hull s t) (one_span y) (both_some s t h) u
        ∙ ap (λ z. span_from z (op (ext_max s.hi t.hi) y)) (min_through op m s.lo t.lo y)
        ∙ ap (span_from (ext_min (op s.lo y) (op t.lo y))) (max_through op m s.hi t.hi y)
        ∙ sym (hull_both (by_ends op s (one_span y)) (by_ends op t (one_span y)) (lifted_some op m s (one_span y) h u) (lifted_some op m t (one_span y) k u)
        ∙ ap (λ z. both_hull z (by_ends op t (one_span y))) (lifted_both op s (one_span y) h u)
        ∙ ap (both_hull (span_from (op s.lo y) (op s.hi y))) (lifted_both op t (one_span y) k u))
    go true false h k =
        ap (λ z. by_ends op z (one_span y)) (hull_first s t h k)
        ∙ sym (ap (least_span (by_ends op s (one_span y))) (lifted_none_left op t (one_span y) k)
        ∙ hull_first (by_ends op s (one_span y)) none_span (lifted_some op m s (one_span y) h u) refl)
    go false true h k =
        ap (λ z. by_ends op z (one_span y)) (hull_second s t h k)
        ∙ sym (ap (λ z. least_span z (by_ends op t (one_span y))) (lifted_none_left op s (one_span y) h)
        ∙ hull_second none_span (by_ends op t (one_span y)) refl (lifted_some op m t (one_span y) k u))
    go false false h k =
        ap (λ z. by_ends op z (one_span y)) (hull_neither s t h k) ∙ lifted_none_left op none_span (one_span y) refl
        ∙ sym (ap (λ z. least_span z (by_ends op t (one_span y))) (lifted_none_left op s (one_span y) h)
        ∙ ap (least_span none_span) (lifted_none_left op t (one_span y) k) ∙ hull_neither none_span none_span refl refl)
