-- What operators make of ends stands for what they make of spans, end by end.
-- Lemmas, no definitions: they are here since ghost members of impls cite them.
use Rattle.std.proofs.Common.{◌≡◌, ◌⊎◌, inl, inr, ℕ, ◌+◌, ◌≤◌, ◌<ℤ◌, ◌+ℤ◌, ℤ, neg_ℤ, true, refl, sym, ap, subst, ◌∙◌, arith}
use Rattle.std.specs.Int.{int_max, int_min}
use Rattle.std.proofs.lemmas.Int.{ints, clamps}
use Rattle.ts_base.specs.Numbers.{ext_max, ext_min, ext_plus, clamp}
use Rattle.ts_base.specs.Orders.{IsMonotone}
use Rattle.ts_base.specs.declared.ext.Ext.{Ext}
use Rattle.ts_base.specs.declared.ext.Ext.TheVariants.{NegInf, Int, PosInf}
use Rattle.ts_base.specs.declared.span.Span.{Span}
use Rattle.ts_base.specs.Spans.{has_some}
use Rattle.ts_base.specs.declared.op.Op.TheVariants.{Add, Max, Min}
use Rattle.ts_automaton.specs.Registers.{ext_op}
use Rattle.ts_automaton.proofs.OperatorLaws.{op_mono, difference_is_sum, difference_ends, negated as taken_away}
use Rattle.ts_hull.specs.Sealed.{by_ends, less_span}
use Rattle.ts_hull.proofs.SpanHulls.{lifted_both, lifted_some}
use Rattle.ts_sweep.specs.declared.packed.Ends.{Ends}
use Rattle.ts_sweep.specs.Lanes.{least}
use Rattle.ts_sweep.specs.Packed.{upper, negated, IsWithin, AreWithin}
use Rattle.ts_sweep.specs.Sides.{Sides, BothEnds, UpperEnds, LowerEnds, IfBelow, IfAbove, IsLower, IsUpper, IsEndsOf}
use Rattle.ts_sweep.specs.Operators.{sum_of_ends, crossed, greater_of_ends, lesser_of_ends}
use Rattle.ts_sweep.specs.UpperLaws.{negated_mono, upper_mid, upper_max, upper_min, lower_max, lower_min}

abbrev pub span_from : Ext → Ext → Span
span_from lo hi = record { lo = lo; hi = hi }

both_ends : (a b c d : Ext) → a ≡ c → b ≡ d → span_from a b ≡ span_from c d
both_ends a b c d p q = cc

pub upper_within : (i : ℕ) (x : ℤ) → i ≤ 10 → IsWithin i x → upper x ≡ Int x
upper_within i x few h =
    let low = h.0 in let high = h.1 in
    upper_mid x (omega (arith, ints, few, low, high)) (omega (arith, ints, few, low, high))

clamp_same : (i : ℕ) (x : ℤ) → i ≤ 10 → IsWithin i x → clamp x ≡ x
clamp_same i x few h = let low = h.0 in let high = h.1 in omega (arith, ints, clamps)

sum_sized : (i j : ℕ) (x y : ℤ) → IsWithin i x → IsWithin j y → IsWithin (i + j) (x +ℤ y)
sum_sized i j x y h k = (omega (arith, ints), omega (arith, ints))

pub sum_within : (i j : ℕ) (a b : Ends) → AreWithin i a → AreWithin j b → AreWithin (i + j) (sum_of_ends a b)
sum_within i j a b p q = (sum_sized i j a.below b.below p.0 q.0, sum_sized i j a.above b.above p.1 q.1)

neg_sum : (x y : ℤ) → neg_ℤ (x +ℤ y) ≡ (neg_ℤ x +ℤ neg_ℤ y)
neg_sum x y = grind (arith, ints)

neg_sized : (i : ℕ) (x : ℤ) → IsWithin i x → IsWithin i (neg_ℤ x)
neg_sized i x h = let low = h.0 in let high = h.1 in (omega (arith, ints), omega (arith, ints))

least_sized : (i : ℕ) (x : ℤ) → i ≤ 10 → IsWithin i x → least <ℤ x
least_sized i x few h = let low = h.0 in omega (arith, ints)

-- what is made of each end that is kept stands for what is made of spans

if_below : (s : Sides) (P Q R : Type 0) → (P → Q → R) → IfBelow s P → IfBelow s Q → IfBelow s R
if_below BothEnds P Q R f p q = f p q
if_below UpperEnds P Q R f p q = tt
if_below LowerEnds P Q R f p q = f p q

if_above : (s : Sides) (P Q R : Type 0) → (P → Q → R) → IfAbove s P → IfAbove s Q → IfAbove s R
if_above BothEnds P Q R f p q = f p q
if_above UpperEnds P Q R f p q = f p q
if_above LowerEnds P Q R f p q = tt

pub ends_by : (s : Sides) (op : Ext → Ext → Ext) → IsMonotone op → (a b c : Ends) (t u : Span) → IsEndsOf s a t →
    IsEndsOf s b u →
    (IsLower a.below t.lo → IsLower b.below u.lo → IsLower c.below (op t.lo u.lo)) →
    (IsUpper a.above t.hi → IsUpper b.above u.hi → IsUpper c.above (op t.hi u.hi)) → IsEndsOf s c (by_ends op t u)
ends_by s op mono a b c t u p q low high =
    let is = lifted_both op t u p.some q.some in
    record {
      some = lifted_some op mono t u p.some q.some;
      below = subst (λ z. IfBelow s (IsLower c.below z.lo)) (sym is) (if_below s _ _ _ low p.below q.below);
      above = subst (λ z. IfAbove s (IsUpper c.above z.hi)) (sym is) (if_above s _ _ _ high p.above q.above);
    }

-- sums

sum_low : (i j : ℕ) (x y : ℤ) (a b : Ext) → i + j ≤ 10 → IsWithin i x → IsWithin j y → IsLower x a → IsLower y b →
    IsLower (x +ℤ y) (ext_plus a b)
sum_low i j x y a b few h k p q =
    let sum = sum_sized i j x y h k in
    let a_is : a ≡ Int (neg_ℤ x) = sym p.1 ∙ ap negated (upper_within i x (omega (arith, few)) h) in
    let b_is : b ≡ Int (neg_ℤ y) = sym q.1 ∙ ap negated (upper_within j y (omega (arith, few)) k) in
    let same : clamp (neg_ℤ x +ℤ neg_ℤ y) ≡ neg_ℤ (x +ℤ y) =
    clamp_same (i + j) (neg_ℤ x +ℤ neg_ℤ y) few (sum_sized i j _ _ (neg_sized i x h) (neg_sized j y k))
    ∙ sym (neg_sum x y) in (
      least_sized (i + j) (x +ℤ y) few sum,
      ap negated (upper_within (i + j) (x +ℤ y) few sum) ∙ ap Int (sym same)
          ∙ sym (ap (λ e. ext_plus e b) a_is ∙ ap (ext_plus (Int (neg_ℤ x))) b_is),
    )

sum_high : (i j : ℕ) (x y : ℤ) (a b : Ext) → i + j ≤ 10 → IsWithin i x → IsWithin j y → IsUpper x a → IsUpper y b →
    IsUpper (x +ℤ y) (ext_plus a b)
sum_high i j x y a b few h k p q =
    let sum = sum_sized i j x y h k in
    let a_is : a ≡ Int x = sym p.1 ∙ upper_within i x (omega (arith, few)) h in
    let b_is : b ≡ Int y = sym q.1 ∙ upper_within j y (omega (arith, few)) k in (
      least_sized (i + j) (x +ℤ y) few sum,
      upper_within (i + j) (x +ℤ y) few sum ∙ ap Int (sym (clamp_same (i + j) (x +ℤ y) few sum))
          ∙ sym (ap (λ e. ext_plus e b) a_is ∙ ap (ext_plus (Int x)) b_is),
    )

pub sum_packs : (s : Sides) (i j : ℕ) (a b : Ends) (t u : Span) → i + j ≤ 10 →
    (true ≡ true → AreWithin i a × AreWithin j b) → IsEndsOf s a t → IsEndsOf s b u →
    IsEndsOf s (sum_of_ends a b) (by_ends (ext_op Add) t u)
sum_packs s i j a b t u few small p q =
    let w = small refl in
    ends_by s (ext_op Add) (op_mono Add) a b (sum_of_ends a b) t u p q
    (sum_low i j a.below b.below t.lo u.lo few w.0.0 w.1.0) (sum_high i j a.above b.above t.hi u.hi few w.0.1 w.1.1)

-- a difference is the sum with the negated second, whose ends are crossed

abbrev pub negated_span : Span → Span
negated_span s = span_from (negated s.hi) (negated s.lo)

negated_twice : (a : Ext) → negated (negated a) ≡ a
negated_twice NegInf = refl
negated_twice (Int x) = ap Int (neg_neg x)
  where
    neg_neg : (x : ℤ) → neg_ℤ (neg_ℤ x) ≡ x
    neg_neg x = grind (arith, ints)
negated_twice PosInf = refl

same_negated : (a : Ext) → taken_away a ≡ negated a
same_negated NegInf = refl
same_negated (Int x) = refl
same_negated PosInf = refl

pub crossed_packs : (a : Ends) (t : Span) → IsEndsOf BothEnds a t → IsEndsOf BothEnds (crossed a) (negated_span t)
crossed_packs a t p = record {
  some = negated_mono t.lo t.hi p.some;
  below = (p.above.0, ap negated p.above.1);
  above = (p.below.0, sym (negated_twice (upper a.below)) ∙ ap negated p.below.1);
}

pub less_is_sum : (s t : Span) → has_some s ≡ true → has_some t ≡ true →
    less_span s t ≡ by_ends (ext_op Add) s (negated_span t)
unfolding less_span
less_is_sum s t p q =
    difference_ends s t p q
    ∙ both_ends _ _ _ _ (difference_is_sum s.lo t.hi ∙ ap (ext_plus s.lo) (same_negated t.hi))
    (difference_is_sum s.hi t.lo ∙ ap (ext_plus s.hi) (same_negated t.lo))
    ∙ sym (lifted_both (ext_op Add) s (negated_span t) p (negated_mono t.lo t.hi q))

pub less_packs : (s : Sides) (i j : ℕ) (a b : Ends) (t u : Span) → s ≡ BothEnds → i + j ≤ 10 →
    (true ≡ true → AreWithin i a × AreWithin j b) → IsEndsOf s a t → IsEndsOf s b u →
    IsEndsOf s (sum_of_ends a (crossed b)) (less_span t u)
less_packs BothEnds i j a b t u alone few small p q =
    let w = small refl in
    subst (IsEndsOf BothEnds (sum_of_ends a (crossed b))) (sym (less_is_sum t u p.some q.some))
    (sum_packs BothEnds i j a (crossed b) t (negated_span u) few (λ e. (w.0, (w.1.1, w.1.0))) p (crossed_packs b u q))
less_packs UpperEnds i j a b t u alone few small p q = cc
less_packs LowerEnds i j a b t u alone few small p q = cc

pub less_within : (i j : ℕ) (a b : Ends) → AreWithin i a → AreWithin j b → AreWithin (i + j) (sum_of_ends a (crossed b))
less_within i j a b p q = sum_within i j a (crossed b) p (q.1, q.0)

-- the greater and the lesser

min_above : (x y : ℤ) → least <ℤ x → least <ℤ y → least <ℤ int_min x y
min_above x y h k = grind (arith, ints)

max_above : (x y : ℤ) → least <ℤ x → least <ℤ int_max x y
max_above x y h = grind (arith, ints)

pub greater_packs : (s : Sides) (a b : Ends) (t u : Span) → IsEndsOf s a t → IsEndsOf s b u →
    IsEndsOf s (greater_of_ends a b) (by_ends (ext_op Max) t u)
greater_packs s a b t u p q =
    ends_by s (ext_op Max) (op_mono Max) a b (greater_of_ends a b) t u p q
    (λ h k. (
      min_above a.below b.below h.0 k.0,
      lower_min a.below b.below ∙ ap (λ e. ext_max e (negated (upper b.below))) h.1 ∙ ap (ext_max t.lo) k.1,
    ))
    (λ h k. (
      max_above a.above b.above h.0,
      upper_max a.above b.above ∙ ap (λ e. ext_max e (upper b.above)) h.1 ∙ ap (ext_max t.hi) k.1,
    ))

pub lesser_packs : (s : Sides) (a b : Ends) (t u : Span) → IsEndsOf s a t → IsEndsOf s b u →
    IsEndsOf s (lesser_of_ends a b) (by_ends (ext_op Min) t u)
lesser_packs s a b t u p q =
    ends_by s (ext_op Min) (op_mono Min) a b (lesser_of_ends a b) t u p q
    (λ h k. (
      max_above a.below b.below h.0,
      lower_max a.below b.below ∙ ap (λ e. ext_min e (negated (upper b.below))) h.1 ∙ ap (ext_min t.lo) k.1,
    ))
    (λ h k. (
      min_above a.above b.above h.0 k.0,
      upper_min a.above b.above ∙ ap (λ e. ext_min e (upper b.above)) h.1 ∙ ap (ext_min t.hi) k.1,
    ))

-- the lesser and the greater of two numbers is one of them

lesser_is : (x y : ℤ) → (int_min x y ≡ x) ⊎ (int_min x y ≡ y)
lesser_is x y = grind (arith, ints)

greater_is : (x y : ℤ) → (int_max x y ≡ x) ⊎ (int_max x y ≡ y)
greater_is x y = grind (arith, ints)

sized_left : (i j : ℕ) (x : ℤ) → IsWithin i x → IsWithin (i + j) x
sized_left i j x h = let a = h.0 in let b = h.1 in (omega (arith, ints, a), omega (arith, ints, b))

sized_right : (i j : ℕ) (x : ℤ) → IsWithin j x → IsWithin (i + j) x
sized_right i j x h = let a = h.0 in let b = h.1 in (omega (arith, ints, a), omega (arith, ints, b))

min_sized : (i j : ℕ) (x y : ℤ) → IsWithin i x → IsWithin j y → IsWithin (i + j) (int_min x y)
min_sized i j x y h k = elim (lesser_is x y) [
  | inl e ↦ subst (IsWithin (i + j)) (sym e) (sized_left i j x h)
  | inr e ↦ subst (IsWithin (i + j)) (sym e) (sized_right i j y k)
]

max_sized : (i j : ℕ) (x y : ℤ) → IsWithin i x → IsWithin j y → IsWithin (i + j) (int_max x y)
max_sized i j x y h k = elim (greater_is x y) [
  | inl e ↦ subst (IsWithin (i + j)) (sym e) (sized_left i j x h)
  | inr e ↦ subst (IsWithin (i + j)) (sym e) (sized_right i j y k)
]

pub greater_within : (i j : ℕ) (a b : Ends) → AreWithin i a → AreWithin j b → AreWithin (i + j) (greater_of_ends a b)
greater_within i j a b p q = (min_sized i j a.below b.below p.0 q.0, max_sized i j a.above b.above p.1 q.1)

pub lesser_within : (i j : ℕ) (a b : Ends) → AreWithin i a → AreWithin j b → AreWithin (i + j) (lesser_of_ends a b)
lesser_within i j a b p q = (max_sized i j a.below b.below p.0 q.0, min_sized i j a.above b.above p.1 q.1)
