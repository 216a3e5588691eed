-- An end that isn't kept is read as the one that is, and is infinite again in the end.
use Rattle.std.proofs.Common.{◌≡◌, inl, inr, ℕ, ◌≤◌, ◌≤ℤ◌, ◌<ℤ◌, ℤ, pos, neg_ℤ, true, false, cond, List, length, refl, sym, ap, subst, ◌∙◌, arith}
use Rattle.std.specs.Int.{int_min}
use Rattle.std.proofs.lemmas.Int.{ints}
use Rattle.ts_base.proofs.SpanLaws.{one_some}
use Rattle.ts_base.specs.declared.ext.Ext.{Ext}
use Rattle.ts_base.specs.declared.ext.Ext.TheVariants.{NegInf, PosInf}
use Rattle.ts_base.specs.declared.span.Span.{Span}
use Rattle.ts_base.specs.Spans.{has_some, none_span, one_span}
use Rattle.ts_automaton.specs.Registers.{spans_of}
use Rattle.ts_hull.specs.Sealed.{span_from}
use Rattle.ts_sweep.specs.declared.packed.Ends.{Ends}
use Rattle.ts_sweep.specs.declared.packed.Name.{Name}
use Rattle.ts_sweep.specs.declared.packed.Name.TheVariants.{C, E, D, F, R}
use Rattle.ts_sweep.specs.FrontLaws.{name_packs, never_added}
use Rattle.ts_sweep.specs.Lanes.{least}
use Rattle.ts_sweep.specs.Packed.{AreSome, IsPackOf, ends, ends_in, ends_span, name_ends, negated, place, unpacked, upper}
use Rattle.ts_sweep.specs.Sides.{Sides, BothEnds, UpperEnds, LowerEnds, IsEndsOf, as_read, filled, read_ends, seen}
use Rattle.ts_sweep.specs.SidesLaws.{ends_of_pack, kept_packs, read_in, read_length}
use Rattle.ts_sweep.specs.UpperLaws.{high_or_not, upper_high}
use Rattle.ts_meet.specs.declared.lane.End.{End}
use Rattle.ts_meet.specs.declared.lane.End.TheVariants.{Below, Above}
use Rattle.ts_meet.specs.Ends.{keeps, lane_at}
use Rattle.ts_meet.specs.Sides.{AreSomeEnds, ArePackOf, pointed, pointed_ends, pointed_spans, shown_ends, side_of, turned}
use Rattle.ts_meet.proofs.Marks.{neg_upper, upper_neg}

-- an end in the lane of the other

same_min : (x : ℤ) → x ≤ℤ pos 9223372036854775807 → int_min x (pos 9223372036854775807) ≡ x
same_min x h = grind (arith, ints)

high_min : (x : ℤ) → pos 9223372036854775807 ≤ℤ x → int_min x (pos 9223372036854775807) ≡ pos 9223372036854775807
high_min x h = grind (arith, ints)

turned_above : (x : ℤ) → least <ℤ turned x
turned_above x = grind (arith, ints)

low_enough : (x : ℤ) → x <ℤ pos 9223372036854775807 → x ≤ℤ pos 9223372036854775807
low_enough x h = omega (arith, ints, h)

turned_upper : (x : ℤ) → upper (turned x) ≡ negated (upper x)
turned_upper x = elim (high_or_not x) [
  | inl high ↦ ap (λ z. upper (neg_ℤ z)) (high_min x high) ∙ sym (ap negated (upper_high x high))
  | inr below ↦ ap (λ z. upper (neg_ℤ z)) (same_min x (low_enough x below)) ∙ upper_neg x
]

turned_lower : (x : ℤ) → negated (upper (turned x)) ≡ upper x
turned_lower x = elim (high_or_not x) [
  | inl high ↦ ap (λ z. negated (upper (neg_ℤ z))) (high_min x high) ∙ sym (upper_high x high)
  | inr below ↦ ap (λ z. negated (upper (neg_ℤ z))) (same_min x (low_enough x below)) ∙ neg_upper x
]

-- what is read of lanes, and of what is read

read_names : (s : Sides) (xs : List ℤ) (k : Name) → name_ends (as_read s xs) k ≡ read_ends s (name_ends xs k)
read_names s xs k =
    ap (λ m. ends_in (as_read s xs) (place m k)) (read_length s xs) ∙ read_in s xs (place (length xs) k)

pointed_read : (s : Sides) (e : Ends) → pointed_ends s (read_ends s e) ≡ pointed_ends s e
pointed_read BothEnds e = refl
pointed_read UpperEnds e = refl
pointed_read LowerEnds e = refl

pub pointed_names : (s : Sides) (xs : List ℤ) (k : Name) → pointed_ends s (name_ends (as_read s xs) k) ≡ pointed_ends s (name_ends xs k)
pointed_names s xs k = ap (pointed_ends s) (read_names s xs k) ∙ pointed_read s (name_ends xs k)

zero_above : least <ℤ pos 0
zero_above = grind (arith, ints)

read_above : (s : Sides) (e : Ends) → least <ℤ e.below → least <ℤ e.above → (least <ℤ (read_ends s e).below) × (least <ℤ (read_ends s e).above)
read_above BothEnds e p q = (p, q)
read_above UpperEnds e p q = (zero_above, q)
read_above LowerEnds e p q = (p, zero_above)

pub names_above : (s : Sides) (n : ℕ) (xs : List ℤ) (k : Name) → 6 ≤ n → AreSome n xs →
    (least <ℤ (name_ends (as_read s xs) k).below) × (least <ℤ (name_ends (as_read s xs) k).above)
names_above s n xs k big h =
    let some = (name_packs n xs k big h).some in
    subst (λ (e : Ends). (least <ℤ e.below) × (least <ℤ e.above)) (sym (read_names s xs k)) (read_above s (name_ends xs k) some.below some.above)

pub pointed_by : (s : Sides) (xs : List ℤ) (k : Name) (e r : Ends) → e ≡ name_ends (as_read s xs) k → r ≡ pointed_ends s e → r ≡ pointed_ends s (name_ends xs k)
pointed_by s xs k e r is made = made ∙ ap (pointed_ends s) is ∙ pointed_names s xs k

-- ends of which one is read as the other stand for a single number or infinity

both_ends : (a b c d : Ext) → a ≡ c → b ≡ d → span_from a b ≡ span_from c d
both_ends a b c d p q = cc

pointed_packs : (s : Sides) (e : Ends) (t : Span) → IsPackOf e t → IsPackOf (pointed_ends s e) (pointed s t)
pointed_packs BothEnds e t p = p
pointed_packs UpperEnds e t p =
    let some : has_some t ≡ true = ap has_some (sym p.span) ∙ p.some.some in
    let high : upper e.above ≡ t.hi = ap (λ (u : Span). u.hi) p.span in
    let is : ends_span (pointed_ends UpperEnds e) ≡ one_span t.hi =
    both_ends _ _ _ _ (turned_lower e.above ∙ high) high in
    record {
      some = record { below = turned_above e.above; above = p.some.above; some = ap has_some is ∙ one_some t.hi };
      span = is ∙ sym (ap (λ b. cond b (one_span t.hi) none_span) some);
    }
pointed_packs LowerEnds e t p =
    let some : has_some t ≡ true = ap has_some (sym p.span) ∙ p.some.some in
    let low : negated (upper e.below) ≡ t.lo = ap (λ (u : Span). u.lo) p.span in
    let is : ends_span (pointed_ends LowerEnds e) ≡ one_span t.lo =
    both_ends _ _ _ _ low (turned_upper e.below ∙ low) in
    record {
      some = record { below = p.some.below; above = turned_above e.below; some = ap has_some is ∙ one_some t.lo };
      span = is ∙ sym (ap (λ b. cond b (one_span t.lo) none_span) some);
    }

-- hulls in lanes

pub lanes_pack : (s : Sides) (n : ℕ) (xs : List ℤ) → 6 ≤ n → AreSome n xs → ArePackOf (side_of s xs) (pointed_spans s (spans_of (unpacked xs)))
unfolding unpacked
lanes_pack s n xs big h = (
  pointed_packs s _ _ (name_packs n xs C big h),
  pointed_packs s _ _ (name_packs n xs E big h),
  pointed_packs s _ _ (name_packs n xs D big h),
  pointed_packs s _ _ (name_packs n xs F big h),
  pointed_packs s _ _ (name_packs n xs R big h),
)

pub lanes_some : (s : Sides) (n : ℕ) (xs : List ℤ) → 6 ≤ n → AreSome n xs → AreSomeEnds (side_of s xs)
lanes_some s n xs big h =
    let p = lanes_pack s n xs big h in (p.0.some, p.1.some, p.2.some, p.3.some, p.4.some)

-- the other end is infinite again

filled_some : (x : ℤ) → least <ℤ x → filled x ≡ pos 9223372036854775807
filled_some x h = grind (arith, ints)

pub shown_packs : (s : Sides) (e : Ends) (t : Span) → IsEndsOf s e t → IsPackOf (shown_ends s e) (seen s t)
shown_packs BothEnds e t p = kept_packs BothEnds e t p
shown_packs UpperEnds e t p =
    subst (λ z. IsPackOf (ends z e.above) (seen UpperEnds t)) (filled_some e.above p.above.0) (kept_packs UpperEnds e t p)
shown_packs LowerEnds e t p =
    subst (λ z. IsPackOf (ends e.below z) (seen LowerEnds t)) (filled_some e.below p.below.0) (kept_packs LowerEnds e t p)

pub shown_pack : (s : Sides) (e : Ends) (t : Span) → IsPackOf e t → IsPackOf (shown_ends s e) (seen s t)
shown_pack s e t p = shown_packs s e t (ends_of_pack s e t p)

-- an end that is kept stays
pub kept_lane : (s : Sides) (k : End) (e : Ends) → keeps s k ≡ true → lane_at k (shown_ends s e) ≡ lane_at k e
kept_lane BothEnds k e h = refl
kept_lane UpperEnds Above e h = refl
kept_lane UpperEnds Below e h = never_added (sym h)
kept_lane LowerEnds Below e h = refl
kept_lane LowerEnds Above e h = never_added (sym h)

-- what is seen of a span

pub seen_pointed : (s : Sides) (t : Span) → seen s (pointed s t) ≡ seen s t
seen_pointed BothEnds t = refl
seen_pointed UpperEnds t =
    elim (has_some t) as (λ b. seen UpperEnds (cond b (one_span t.hi) none_span) ≡ cond b (seen UpperEnds (one_span t.hi)) none_span) [
      | true ↦ refl
      | false ↦ refl
    ]
    ∙ ap (λ c. cond (has_some t) (cond c (span_from NegInf t.hi) none_span) none_span) (one_some t.hi)
seen_pointed LowerEnds t =
    elim (has_some t) as (λ b. seen LowerEnds (cond b (one_span t.lo) none_span) ≡ cond b (seen LowerEnds (one_span t.lo)) none_span) [
      | true ↦ refl
      | false ↦ refl
    ]
    ∙ ap (λ c. cond (has_some t) (cond c (span_from t.lo PosInf) none_span) none_span) (one_some t.lo)

pub none_seen : (s : Sides) → seen s none_span ≡ none_span
none_seen BothEnds = refl
none_seen UpperEnds = refl
none_seen LowerEnds = refl
