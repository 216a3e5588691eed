-- What is seen of a join is the join of what is seen; what is seen of a sum, a greatest or a least depends on what is seen of both.
use Rattle.std.proofs.Common.{◌≡◌, ℕ, zero, suc, Bool, true, false, cond, ℤ, refl, sym, ap, ◌∙◌}
use Rattle.ts_base.specs.Numbers.{ext_le, ext_max, ext_min}
use Rattle.ts_base.specs.Orders.{IsMonotone}
use Rattle.ts_base.specs.declared.ext.Ext.{Ext}
use Rattle.ts_base.specs.declared.ext.Ext.TheVariants.{NegInf, Int, PosInf}
use Rattle.ts_base.specs.declared.span.Span.{Span}
use Rattle.ts_base.specs.Spans.{has_some, none_span, one_span}
use Rattle.ts_automaton.specs.Registers.{ext_op}
use Rattle.ts_automaton.specs.declared.regs.Hull.{Hull}
use Rattle.ts_automaton.proofs.KindLaws.{op_mono}
use Rattle.ts_hull.specs.Cuts.{Cut, closed_hull}
use Rattle.ts_hull.specs.Hulls.{none, hull_of_both}
use Rattle.ts_hull.specs.Sealed.{by_ends, least_span, span_from}
use Rattle.ts_hull.specs.Splits.{Split, FrontOf, TailOf, ByPairs, closed_span}
use Rattle.ts_hull.specs.Sweeps.{total}
use Rattle.ts_hull.proofs.HullLaws.{same_hull}
use Rattle.ts_hull.proofs.SpanHulls.{both_is, both_hull, both_some, hull_both, hull_first, hull_second, hull_neither, lifted_both, lifted_none_left, lifted_none_right, lifted_some}
use Rattle.ts_sweep.specs.Sides.{Sides, BothEnds, UpperEnds, LowerEnds, seen, seen_hull}

-- spans

top_of : (a : Ext) → ext_le a PosInf ≡ true
top_of NegInf = refl
top_of (Int x) = refl
top_of PosInf = refl

-- what is seen of a span in which a register lies
abbrev shown_ends : Sides → Ext → Ext → Span
shown_ends BothEnds lo hi = span_from lo hi
shown_ends UpperEnds lo hi = span_from NegInf hi
shown_ends LowerEnds lo hi = span_from lo PosInf

seen_some : (s : Sides) (t : Span) → has_some t ≡ true → seen s t ≡ shown_ends s t.lo t.hi
seen_some BothEnds t h = refl
seen_some UpperEnds t h = ap (λ b. cond b (span_from NegInf t.hi) none_span) h
seen_some LowerEnds t h = ap (λ b. cond b (span_from t.lo PosInf) none_span) h

pub some_seen : (s : Sides) (t : Span) → has_some (seen s t) ≡ has_some t
some_seen BothEnds t = refl
some_seen UpperEnds t = elim (has_some t) as (λ b. has_some (cond b (span_from NegInf t.hi) none_span) ≡ b) [ true ↦ refl | false ↦ refl ]
some_seen LowerEnds t = elim (has_some t) as (λ b. has_some (cond b (span_from t.lo PosInf) none_span) ≡ b) [ true ↦ top_of t.lo | false ↦ refl ]

seen_none : (s : Sides) → seen s none_span ≡ none_span
seen_none BothEnds = refl
seen_none UpperEnds = refl
seen_none LowerEnds = refl

joined_shown : (s : Sides) (a b c d : Ext) → shown_ends s (ext_min a b) (ext_max c d) ≡ both_hull (shown_ends s a c) (shown_ends s b d)
joined_shown BothEnds a b c d = refl
joined_shown UpperEnds a b c d = refl
joined_shown LowerEnds a b c d = refl

pub seen_join : (s : Sides) (t u : Span) → seen s (least_span t u) ≡ least_span (seen s t) (seen s u)
seen_join s t u = go (has_some t) (has_some u) refl refl
  where
    go : (a b : Bool) → has_some t ≡ a → has_some u ≡ b → seen s (least_span t u) ≡ least_span (seen s t) (seen s u)
    go true true e f =
        ap (seen s) (hull_both t u e f) ∙ seen_some s (both_hull t u) (both_some t u e) ∙ joined_shown s t.lo u.lo t.hi u.hi
        ∙ sym (ap (λ z. both_hull z (seen s u)) (seen_some s t e) ∙ ap (both_hull (shown_ends s t.lo t.hi)) (seen_some s u f))
        ∙ sym (hull_both (seen s t) (seen s u) (some_seen s t ∙ e) (some_seen s u ∙ f))
    go true false e f = ap (seen s) (hull_first t u e f) ∙ sym (hull_first (seen s t) (seen s u) (some_seen s t ∙ e) (some_seen s u ∙ f))
    go false true e f = ap (seen s) (hull_second t u e f) ∙ sym (hull_second (seen s t) (seen s u) (some_seen s t ∙ e) (some_seen s u ∙ f))
    go false false e f =
        ap (seen s) (hull_neither t u e f) ∙ seen_none s
        ∙ sym (hull_neither (seen s t) (seen s u) (some_seen s t ∙ e) (some_seen s u ∙ f))

-- what is seen is seen again as it is
pub seen_twice : (s : Sides) (t : Span) → seen s (seen s t) ≡ seen s t
seen_twice BothEnds t = refl
seen_twice UpperEnds t =
    elim (has_some t) as (λ b. seen UpperEnds (cond b (span_from NegInf t.hi) none_span) ≡ cond b
    (span_from NegInf t.hi) none_span) [ true ↦ refl | false ↦ refl ]
seen_twice LowerEnds t =
    elim (has_some t) as (λ b. seen LowerEnds (cond b (span_from t.lo PosInf) none_span) ≡ cond b (span_from t.lo PosInf) none_span) [
      | true ↦ ap (λ b. cond b (span_from t.lo PosInf) none_span) (top_of t.lo)
      | false ↦ refl
    ]

-- an operator, end by end

shown_op : (s : Sides) (op : Ext → Ext → Ext) (a b c d a' b' c' d' : Ext) → shown_ends s a c ≡ shown_ends s a' c' →
    shown_ends s b d ≡ shown_ends s b' d' →
    shown_ends s (op a b) (op c d) ≡ shown_ends s (op a' b') (op c' d')
shown_op BothEnds op a b c d a' b' c' d' p q =
    let lo : op a b ≡ op a' b' = ap (λ z. op z b) (ap (λ (u : Span). u.lo) p) ∙ ap (op a') (ap (λ (u : Span). u.lo) q) in
    let hi : op c d ≡ op c' d' = ap (λ z. op z d) (ap (λ (u : Span). u.hi) p) ∙ ap (op c') (ap (λ (u : Span). u.hi) q) in
    ap (λ z. span_from z (op c d)) lo ∙ ap (span_from (op a' b')) hi
shown_op UpperEnds op a b c d a' b' c' d' p q =
    ap (λ z. span_from NegInf (op z d)) (ap (λ (u : Span). u.hi) p) ∙ ap (λ z. span_from NegInf (op c' z)) (ap (λ (u : Span). u.hi) q)
shown_op LowerEnds op a b c d a' b' c' d' p q =
    ap (λ z. span_from (op z b) PosInf) (ap (λ (u : Span). u.lo) p) ∙ ap (λ z. span_from (op a' z) PosInf) (ap (λ (u : Span). u.lo) q)

same_some : (s : Sides) (t u : Span) → seen s t ≡ seen s u → (b : Bool) → has_some t ≡ b → has_some u ≡ b
same_some s t u e b h = sym (some_seen s u) ∙ sym (ap has_some e) ∙ some_seen s t ∙ h

pub seen_op : (s : Sides) (op : Ext → Ext → Ext) → IsMonotone op → (t u t' u' : Span) → seen s t ≡ seen s t' → seen s u ≡ seen s u' →
    seen s (by_ends op t u) ≡ seen s (by_ends op t' u')
seen_op s op mono t u t' u' p q = go (has_some t) (has_some u) refl refl
  where
    go : (a b : Bool) → has_some t ≡ a → has_some u ≡ b → seen s (by_ends op t u) ≡ seen s (by_ends op t' u')
    go true true e f =
        let e' = same_some s t t' p true e in
        let f' = same_some s u u' q true f in
        seen_some s (by_ends op t u) (lifted_some op mono t u e f)
        ∙ ap (λ (z : Span). shown_ends s z.lo z.hi) (lifted_both op t u e f)
        ∙ shown_op s op t.lo u.lo t.hi u.hi t'.lo u'.lo t'.hi u'.hi (sym (seen_some s t e) ∙ p ∙ seen_some s t' e')
        (sym (seen_some s u f) ∙ q ∙ seen_some s u' f')
        ∙ sym (seen_some s (by_ends op t' u') (lifted_some op mono t' u' e' f')
        ∙ ap (λ (z : Span). shown_ends s z.lo z.hi) (lifted_both op t' u' e' f'))
    go true false e f =
        ap (seen s) (lifted_none_right op t u f) ∙ sym (ap (seen s) (lifted_none_right op t' u' (same_some s u u' q false f)))
    go false b e f =
        ap (seen s) (lifted_none_left op t u e) ∙ sym (ap (seen s) (lifted_none_left op t' u' (same_some s t t' p false e)))

-- hulls

pub none_seen : (s : Sides) → seen_hull s none ≡ none
none_seen BothEnds = refl
none_seen UpperEnds = refl
none_seen LowerEnds = refl

pub seen_both : (s : Sides) (h k : Hull) → seen_hull s (hull_of_both h k) ≡ hull_of_both (seen_hull s h) (seen_hull s k)
seen_both s h k =
    ap (seen_hull s) (both_is h k)
    ∙ same_hull (seen_join s h.c k.c) refl (seen_join s h.d k.d) refl (seen_join s h.r k.r)
    ∙ sym (both_is (seen_hull s h) (seen_hull s k))

pub seen_total : (s : Sides) (n : ℕ) (f : ℕ → Hull) → seen_hull s (total n f) ≡ total n (λ i. seen_hull s (f i))
unfolding total
seen_total s zero f = none_seen s
seen_total s (suc n) f = seen_both s (total n f) (f n) ∙ ap (λ z. hull_of_both z (seen_hull s (f n))) (seen_total s n f)

pub seen_cond : (s : Sides) (b : Bool) (h : Hull) → seen_hull s (cond b h none) ≡ cond b (seen_hull s h) none
seen_cond s true h = refl
seen_cond s false h = none_seen s

-- where both ends are kept, all is seen
pub all_seen : (s : Sides) (h : Hull) → s ≡ BothEnds → seen_hull s h ≡ h
all_seen BothEnds h e = refl
all_seen UpperEnds h e = cc
all_seen LowerEnds h e = cc

-- what the next cell makes of a hull

closed_seen : (s : Sides) (p : Split) (t : Span) (w : ℤ) → seen s (closed_span p (seen s t) w) ≡ seen s (closed_span p t w)
closed_seen s (FrontOf e) t w = seen_twice s t
closed_seen s (TailOf o e) t w = seen_op s (ext_op o) (op_mono o) (seen s t) (one_span (Int w)) t (one_span (Int w)) (seen_twice s t) refl
closed_seen s ByPairs t w = refl

pub seen_closed : (s : Sides) (k : Cut) (h : Hull) (w : ℤ) → seen_hull s (closed_hull k (seen_hull s h) w) ≡ seen_hull s (closed_hull k h w)
unfolding closed_hull
seen_closed s k h w = same_hull (closed_seen s k.c h.c w) refl (closed_seen s k.d h.d w) refl (closed_seen s k.r h.r w)
