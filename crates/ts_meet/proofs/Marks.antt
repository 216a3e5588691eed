-- A mark on ends stands for the mark on their span; the hull of ends for the hull of their spans.
use Rattle.std.proofs.Common.{◌≡◌, inl, inr, ℕ, ◌≤◌, ◌≤ℤ◌, ◌<ℤ◌, ℤ, pos, negsuc, neg_ℤ, Bool, true, false, cond, int_le, refl, sym, ap, subst, ◌∙◌, arith}
use Rattle.std.specs.Int.{int_max}
use Rattle.std.proofs.lemmas.Int.{ints}
use Rattle.ts_base.proofs.Order.{le_trans, min_left, max_left}
use Rattle.ts_base.proofs.SpanLaws.{one_some}
use Rattle.ts_base.specs.Numbers.{ext_le, ext_max, ext_min}
use Rattle.ts_base.specs.declared.ext.Ext.{Ext}
use Rattle.ts_base.specs.declared.ext.Ext.TheVariants.{Int, NegInf, PosInf}
use Rattle.ts_base.specs.declared.span.Span.{Span}
use Rattle.ts_base.specs.Spans.{has_some, none_span, one_span, span_hull}
use Rattle.ts_automaton.specs.declared.state.Mark.{Mark}
use Rattle.ts_automaton.specs.declared.state.Mark.TheVariants.{Same, Zero, Cells}
use Rattle.ts_automaton.specs.AutomatonRun.{under_mark}
use Rattle.ts_automaton.specs.SpanRun.{marked_span}
use Rattle.ts_sweep.specs.declared.packed.Ends.{Ends}
use Rattle.ts_sweep.specs.FrontLaws.{never_added}
use Rattle.ts_sweep.specs.Lanes.{least}
use Rattle.ts_sweep.specs.Packed.{upper, negated, ends, ends_span, max_ends, IsPackOf}
use Rattle.ts_sweep.specs.UpperLaws.{low_or_not, high_or_not, upper_low, upper_high, upper_mid, upper_max, lower_max}
use Rattle.ts_meet.specs.Sides.{StandFor, first_end, hull_of_lanes, marked_above, marked_below, marked_ends, no_ends}

abbrev pub span_from : Ext → Ext → Span
span_from lo hi = record { lo = lo; hi = hi }

both_ends : (a b c d : Ext) → a ≡ c → b ≡ d → span_from a b ≡ span_from c d
both_ends a b c d p q = cc

-- lanes that are negated

neg_neg : (x : ℤ) → neg_ℤ (neg_ℤ x) ≡ x
neg_neg x = grind (arith, ints)

pub neg_upper : (x : ℤ) → negated (upper (neg_ℤ x)) ≡ upper x
neg_upper x = elim (low_or_not x) [
  | inl low ↦ ap negated (upper_high (neg_ℤ x) (omega (arith, ints, low))) ∙ sym (upper_low x low)
  | inr above ↦ elim (high_or_not x) [
    | inl high ↦ ap negated (upper_low (neg_ℤ x) (omega (arith, ints, high))) ∙ sym (upper_high x high)
    | inr below ↦ ap negated (upper_mid (neg_ℤ x) (omega (arith, ints, below)) (omega (arith, ints, above))) ∙ ap Int (neg_neg x)
        ∙ sym (upper_mid x above below)
  ]
]

pub upper_neg : (x : ℤ) → upper (neg_ℤ x) ≡ negated (upper x)
upper_neg x = sym (neg_upper (neg_ℤ x)) ∙ ap (λ z. negated (upper z)) (neg_neg x)

le_true : (x y : ℤ) → x ≤ℤ y → int_le x y ≡ true
le_true x y h = grind (arith, ints)

le_false : (x y : ℤ) → y <ℤ x → int_le x y ≡ false
le_false x y h = grind (arith, ints)

cells_upper : (n : ℕ) → n ≤ 4294967295 → upper (pos n) ≡ Int (pos n)
cells_upper n few = upper_mid (pos n) (omega (arith, ints)) (omega (arith, ints, few))

-- a mark on a lane

zero_above : (n : ℕ) (x : ℤ) → upper (marked_above Zero n x) ≡ under_mark Zero n (upper x)
zero_above n x = elim (low_or_not x) [
  | inl low ↦ ap (λ b. upper (cond b (pos 0) x)) (le_true x (negsuc 9223372036854775806) low) ∙ sym (ap (under_mark Zero n) (upper_low x low))
  | inr above ↦ ap (λ b. upper (cond b (pos 0) x)) (le_false x (negsuc 9223372036854775806) above) ∙ elim (high_or_not x) [
    | inl high ↦ upper_high x high ∙ sym (ap (under_mark Zero n) (upper_high x high))
    | inr below ↦ upper_mid x above below ∙ sym (ap (under_mark Zero n) (upper_mid x above below))
  ]
]

cells_above : (n : ℕ) (x : ℤ) → n ≤ 4294967295 → upper (marked_above Cells n x) ≡ under_mark Cells n (upper x)
cells_above n x few = elim (high_or_not x) [
  | inl high ↦ ap (λ b. upper (cond b (pos n) x)) (le_true (pos 9223372036854775807) x high) ∙ cells_upper n few
      ∙ sym (ap (under_mark Cells n) (upper_high x high))
  | inr below ↦ ap (λ b. upper (cond b (pos n) x)) (le_false (pos 9223372036854775807) x below) ∙ elim (low_or_not x) [
    | inl low ↦ upper_low x low ∙ sym (ap (under_mark Cells n) (upper_low x low))
    | inr above ↦ upper_mid x above below ∙ sym (ap (under_mark Cells n) (upper_mid x above below))
  ]
]

zero_below : (n : ℕ) (x : ℤ) → negated (upper (marked_below Zero n x)) ≡ under_mark Zero n (negated (upper x))
zero_below n x = elim (high_or_not x) [
  | inl high ↦ ap (λ b. negated (upper (cond b (pos 0) x))) (le_true (pos 9223372036854775807) x high)
      ∙ sym (ap (λ e. under_mark Zero n (negated e)) (upper_high x high))
  | inr below ↦ ap (λ b. negated (upper (cond b (pos 0) x))) (le_false (pos 9223372036854775807) x below) ∙ elim (low_or_not x) [
    | inl low ↦ ap negated (upper_low x low) ∙ sym (ap (λ e. under_mark Zero n (negated e)) (upper_low x low))
    | inr above ↦ ap negated (upper_mid x above below) ∙ sym (ap (λ e. under_mark Zero n (negated e)) (upper_mid x above below))
  ]
]

cells_below : (n : ℕ) (x : ℤ) → n ≤ 4294967295 → negated (upper (marked_below Cells n x)) ≡ under_mark Cells n (negated (upper x))
cells_below n x few = elim (low_or_not x) [
  | inl low ↦ ap (λ b. negated (upper (cond b (neg_ℤ (pos n)) x))) (le_true x (negsuc 9223372036854775806) low) ∙ neg_upper (pos n) ∙ cells_upper n few
      ∙ sym (ap (λ e. under_mark Cells n (negated e)) (upper_low x low))
  | inr above ↦ ap (λ b. negated (upper (cond b (neg_ℤ (pos n)) x))) (le_false x (negsuc 9223372036854775806) above) ∙ elim (high_or_not x) [
    | inl high ↦ ap negated (upper_high x high) ∙ sym (ap (λ e. under_mark Cells n (negated e)) (upper_high x high))
    | inr below ↦ ap negated (upper_mid x above below) ∙ sym (ap (λ e. under_mark Cells n (negated e)) (upper_mid x above below))
  ]
]

marked_upper : (k : Mark) (n : ℕ) (x : ℤ) → n ≤ 4294967295 → upper (marked_above k n x) ≡ under_mark k n (upper x)
marked_upper Same n x few = refl
marked_upper Zero n x few = zero_above n x
marked_upper Cells n x few = cells_above n x few

marked_lower : (k : Mark) (n : ℕ) (x : ℤ) → n ≤ 4294967295 → negated (upper (marked_below k n x)) ≡ under_mark k n (negated (upper x))
marked_lower Same n x few = refl
marked_lower Zero n x few = zero_below n x
marked_lower Cells n x few = cells_below n x few

-- hulls

abbrev hull_of : Ext → Ext → Span
hull_of p q = span_from (ext_min p q) (ext_max p q)

two_ends : (p q : Ext) → span_hull (one_span p) (one_span q) ≡ hull_of p q
two_ends p q =
    ap (λ b. cond b (cond (has_some (one_span q)) (hull_of p q) (one_span p)) (cond (has_some (one_span q)) (one_span q) none_span)) (one_some p)
    ∙ ap (λ b. cond b (hull_of p q) (one_span p)) (one_some q)

hull_some : (p q : Ext) → has_some (hull_of p q) ≡ true
hull_some p q = le_trans (ext_min p q) p (ext_max p q) (min_left p q) (max_left p q)

lanes_span : (x y : ℤ) → ends_span (hull_of_lanes x y) ≡ hull_of (negated (upper x)) (upper y)
lanes_span x y =
    both_ends _ _ _ _
    (lower_max x (neg_ℤ y) ∙ ap (ext_min (negated (upper x))) (neg_upper y))
    (upper_max (neg_ℤ x) y ∙ ap (λ e. ext_max e (upper y)) (upper_neg x))

above_max : (x y : ℤ) → least <ℤ x → least <ℤ int_max x y
above_max x y h = grind (arith, ints)

above_right : (x y : ℤ) → least <ℤ y → least <ℤ int_max x y
above_right x y h = grind (arith, ints)

-- what marks make of lanes that are numbers or infinities
pub lane_kept : (k : Mark) (n : ℕ) (x : ℤ) → n ≤ 4294967295 → least <ℤ x → (least <ℤ marked_below k n x) × (least <ℤ marked_above k n x)
lane_kept Same n x few h = (h, h)
lane_kept Zero n x few h = (zero_kept (int_le (pos 9223372036854775807) x), zero_kept (int_le x (negsuc 9223372036854775806)))
  where
    zero_kept : (b : Bool) → least <ℤ cond b (pos 0) x
    zero_kept true = grind (arith, ints)
    zero_kept false = h
lane_kept Cells n x few h = (below_kept (int_le x (negsuc 9223372036854775806)), above_kept (int_le (pos 9223372036854775807) x))
  where
    below_kept : (b : Bool) → least <ℤ cond b (neg_ℤ (pos n)) x
    below_kept true = omega (arith, ints, few)
    below_kept false = h

    above_kept : (b : Bool) → least <ℤ cond b (pos n) x
    above_kept true = omega (arith, ints)
    above_kept false = h

pub marked_packs : (k : Mark) (n : ℕ) (e : Ends) (s : Span) → n ≤ 4294967295 → IsPackOf e s → IsPackOf (marked_ends k n e) (marked_span k n s)
marked_packs k n e s few p =
    let x = marked_below k n e.below in
    let y = marked_above k n e.above in
    let some : has_some s ≡ true = ap has_some (sym p.span) ∙ p.some.some in
    let low : negated (upper x) ≡ under_mark k n s.lo = marked_lower k n e.below few ∙ ap (λ (z : Span). under_mark k n z.lo) p.span in
    let high : upper y ≡ under_mark k n s.hi = marked_upper k n e.above few ∙ ap (λ (z : Span). under_mark k n z.hi) p.span in
    let is : ends_span (hull_of_lanes x y) ≡ marked_span k n s =
    lanes_span x y ∙ ap (λ z. hull_of z (upper y)) low ∙ ap (hull_of (under_mark k n s.lo)) high
    ∙ sym (two_ends (under_mark k n s.lo) (under_mark k n s.hi))
    ∙ sym (ap (λ b. cond b (span_hull (one_span (under_mark k n s.lo)) (one_span (under_mark k n s.hi))) none_span) some) in
    record {
      some = record {
        below = above_max x (neg_ℤ y) (lane_kept k n e.below few p.some.below).0;
        above = above_right (neg_ℤ x) y (lane_kept k n e.above few p.some.above).1;
        some = ap has_some (lanes_span x y) ∙ hull_some (negated (upper x)) (upper y);
      };
      span = is;
    }

-- a mark changes infinite ends alone

same_ends : (a b : Ends) → a.below ≡ b.below → a.above ≡ b.above → a ≡ b
same_ends a b p q = ap (λ z. ends z a.above) p ∙ ap (ends b.below) q

no_lower : (y : ℤ) → y <ℤ pos 9223372036854775807 → ext_le PosInf (upper y) ≡ false
no_lower y h = elim (low_or_not y) [
  | inl low ↦ ap (ext_le PosInf) (upper_low y low)
  | inr above ↦ ap (ext_le PosInf) (upper_mid y above h)
]

le_means : (x y : ℤ) → int_le x y ≡ true → x ≤ℤ y
le_means x y h = grind (arith, ints)

-- where no end of a register is infinite outwards, both are numbers, the lower one at most the upper one
are_numbers : (x y : ℤ) → has_some (ends_span (ends x y)) ≡ true → x <ℤ pos 9223372036854775807 → y <ℤ pos 9223372036854775807 →
    (negsuc 9223372036854775806 <ℤ x) × (negsuc 9223372036854775806 <ℤ y) × (neg_ℤ x ≤ℤ y)
are_numbers x y some px py = elim (low_or_not x) [
  | inl low ↦ never_added (sym some ∙ ap (λ a. ext_le (negated a) (upper y)) (upper_low x low) ∙ no_lower y py)
  | inr ax ↦ elim (low_or_not y) [
    | inl low ↦ never_added (sym some ∙ ap (ext_le (negated (upper x))) (upper_low y low) ∙ ap (λ a. ext_le (negated a) NegInf) (upper_mid x ax px))
    | inr ay ↦ (
      ax,
      ay,
      le_means (neg_ℤ x) y
          (sym (ap (λ a. ext_le (negated a) (upper y)) (upper_mid x ax px) ∙ ap (ext_le (Int (neg_ℤ x))) (upper_mid y ay py)) ∙ some),
    )
  ]
]

number_marked : (k : Mark) (n : ℕ) (x : ℤ) → negsuc 9223372036854775806 <ℤ x → x <ℤ pos 9223372036854775807 →
    (marked_below k n x ≡ x) × (marked_above k n x ≡ x)
number_marked Same n x low high = (refl, refl)
number_marked Zero n x low high = (
  ap (λ b. cond b (pos 0) x) (le_false (pos 9223372036854775807) x high),
  ap (λ b. cond b (pos 0) x) (le_false x (negsuc 9223372036854775806) low),
)
number_marked Cells n x low high = (
  ap (λ b. cond b (neg_ℤ (pos n)) x) (le_false x (negsuc 9223372036854775806) low),
  ap (λ b. cond b (pos n) x) (le_false (pos 9223372036854775807) x high),
)

first_max : (x y : ℤ) → neg_ℤ x ≤ℤ y → int_max x (neg_ℤ y) ≡ x
first_max x y h = grind (arith, ints)

second_max : (x y : ℤ) → neg_ℤ x ≤ℤ y → int_max (neg_ℤ x) y ≡ y
second_max x y h = grind (arith, ints)

-- a mark leaves two ends, of which the lower one is at most the upper one
abbrev AreLeft : Mark → ℕ → ℤ → ℤ → Type 0
AreLeft k n x y = (marked_below k n x ≡ x) × (marked_above k n y ≡ y) × (neg_ℤ x ≤ℤ y)

first_left : (k : Mark) (n : ℕ) (x y : ℤ) → least <ℤ x → least <ℤ y → has_some (ends_span (ends x y)) ≡ true →
    first_end k (ends x y) <ℤ pos 9223372036854775807 → AreLeft k n x y
first_left Same n x y a b some h = elim (high_or_not y) [
  | inl far ↦ (refl, refl, omega (arith, ints, a, far))
  | inr near ↦ (refl, refl, (are_numbers x y some h near).2)
]
first_left Zero n x y a b some h = (
  ap (λ b. cond b (pos 0) x) (le_false (pos 9223372036854775807) x h),
  elim (high_or_not y) [
    | inl far ↦ ap (λ b. cond b (pos 0) y) (le_false y (negsuc 9223372036854775806) (omega (arith, ints, far)))
    | inr near ↦ (number_marked Zero n y (are_numbers x y some h near).1 near).1
  ],
  elim (high_or_not y) [
    | inl far ↦ omega (arith, ints, a, far)
    | inr near ↦ (are_numbers x y some h near).2
  ],
)
first_left Cells n x y a b some h = (
  elim (high_or_not x) [
    | inl far ↦ ap (λ b. cond b (neg_ℤ (pos n)) x) (le_false x (negsuc 9223372036854775806) (omega (arith, ints, far)))
    | inr near ↦ (number_marked Cells n x (are_numbers x y some near h).0 near).0
  ],
  ap (λ b. cond b (pos n) y) (le_false (pos 9223372036854775807) y h),
  elim (high_or_not x) [
    | inl far ↦ omega (arith, ints, b, far)
    | inr near ↦ (are_numbers x y some near h).2
  ],
)

pub first_kept : (k : Mark) (n : ℕ) (e : Ends) (s : Span) → n ≤ 4294967295 → first_end k e <ℤ pos 9223372036854775807 →
    IsPackOf e s → IsPackOf e (marked_span k n s)
first_kept k n e s few first p =
    let are = first_left k n e.below e.above p.some.below p.some.above p.some.some first in
    let is : marked_ends k n e ≡ e =
    ap (λ z. hull_of_lanes z (marked_above k n e.above)) are.0 ∙ ap (hull_of_lanes e.below) are.1
    ∙ same_ends (hull_of_lanes e.below e.above) e (first_max e.below e.above are.2) (second_max e.below e.above are.2) in
    subst (λ z. IsPackOf z (marked_span k n s)) is (marked_packs k n e s few p)

finite_first : (k : Mark) (e : Ends) → e.below <ℤ pos 9223372036854775807 → e.above <ℤ pos 9223372036854775807 →
    first_end k e <ℤ pos 9223372036854775807
finite_first Same e below above = below
finite_first Zero e below above = below
finite_first Cells e below above = above

pub finite_kept : (k : Mark) (n : ℕ) (e : Ends) (s : Span) → n ≤ 4294967295 → e.below <ℤ pos 9223372036854775807 →
    e.above <ℤ pos 9223372036854775807 → IsPackOf e s → IsPackOf e (marked_span k n s)
finite_kept k n e s few below above p = first_kept k n e s few (finite_first k e below above) p

-- spans that are taken in

least_max : (x : ℤ) → least <ℤ x → int_max least x ≡ x
least_max x h = grind (arith, ints)

none_first : (t : Span) → has_some t ≡ true → span_hull none_span t ≡ t
none_first t h = ap (λ b. cond b t none_span) h

some_both : (s t : Span) → has_some s ≡ true → has_some t ≡ true → span_hull s t ≡ span_from (ext_min s.lo t.lo) (ext_max s.hi t.hi)
some_both s t h k =
    let both = span_from (ext_min s.lo t.lo) (ext_max s.hi t.hi) in
    ap (λ b. cond b (cond (has_some t) both s) (cond (has_some t) t none_span)) h ∙ ap (λ b. cond b both s) k

pack_some : (e : Ends) (s : Span) → IsPackOf e s → has_some s ≡ true
pack_some e s p = ap has_some (sym p.span) ∙ p.some.some

pub takes_in : (a b : Ends) (s t : Span) → StandFor a s → IsPackOf b t → StandFor (max_ends a b) (span_hull s t)
takes_in a b s t (inl h) q =
    let is : max_ends a b ≡ b =
    ap (λ z. max_ends z b) h.0 ∙ same_ends (max_ends no_ends b) b (least_max b.below q.some.below) (least_max b.above q.some.above) in
    inr (subst (λ z. IsPackOf z (span_hull s t)) (sym is) (subst (IsPackOf b) (sym (ap (λ z. span_hull z t) h.1 ∙ none_first t (pack_some b t q))) q))
takes_in a b s t (inr p) q =
    let is : ends_span (max_ends a b) ≡ span_hull s t =
    both_ends _ _ _ _ (lower_max a.below b.below) (upper_max a.above b.above)
    ∙ ap (λ z. span_from (ext_min z.lo (negated (upper b.below))) (ext_max z.hi (upper b.above))) p.span
    ∙ ap (λ z. span_from (ext_min s.lo z.lo) (ext_max s.hi z.hi)) q.span
    ∙ sym (some_both s t (pack_some a s p) (pack_some b t q)) in
    let low : ext_le (ext_min s.lo t.lo) s.hi ≡ true = le_trans (ext_min s.lo t.lo) s.lo s.hi (min_left s.lo t.lo) (pack_some a s p) in
    let some : has_some (span_hull s t) ≡ true =
    ap has_some (some_both s t (pack_some a s p) (pack_some b t q)) ∙ le_trans (ext_min s.lo t.lo) s.hi (ext_max s.hi t.hi) low (max_left s.hi t.hi) in
    inr (record {
      some = record {
        below = above_max a.below b.below p.some.below;
        above = above_max a.above b.above p.some.above;
        some = ap has_some is ∙ some;
      };
      span = is;
    })

-- what stands for ends takes in none unchanged
pub with_nothing : (a : Ends) (s : Span) → StandFor a s → span_hull s none_span ≡ s
with_nothing a s (inl h) = ap (λ z. span_hull z none_span) h.1 ∙ sym h.1
with_nothing a s (inr p) = ap (λ b. cond b s none_span) (pack_some a s p)

pub keeps : (a : Ends) (s t : Span) → StandFor a s → t ≡ none_span → StandFor a (span_hull s t)
keeps a s t h e = subst (StandFor a) (sym (ap (span_hull s) e ∙ with_nothing a s h)) h

pub stands_span : (a : Ends) (s : Span) → StandFor a s → ends_span a ≡ s
stands_span a s (inl h) = ap ends_span h.0 ∙ sym h.1
stands_span a s (inr p) = p.span
