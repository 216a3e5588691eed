-- Small hulls in lanes: they stand for themselves, and are packed.
use Rattle.std.proofs.Common.{◌≡◌, ◌⊎◌, inl, inr, ℕ, zero, suc, ◌+◌, ◌*◌, ◌<◌, ◌≤◌, ◌≤ℤ◌, ◌<ℤ◌, ℤ, pos, negsuc, neg_ℤ, Bool, true, false, cond, Option, None, Some, List, length, get_or, set, replicate, refl, sym, ap, subst, ◌∙◌, arith}
use Rattle.std.proofs.lemmas.Bool.{and_parts, cases_lt}
use Rattle.std.proofs.lemmas.Int.{ints}
use Rattle.std.proofs.lemmas.List.{get_or-replicate, length-replicate}
use Rattle.ts_base.specs.declared.ext.Ext.{Ext}
use Rattle.ts_base.specs.declared.ext.Ext.TheVariants.{NegInf, Int, PosInf}
use Rattle.ts_base.specs.declared.span.Span.{Span}
use Rattle.ts_base.specs.Spans.{has_some}
use Rattle.ts_automaton.specs.declared.regs.Hull.{Hull}
use Rattle.ts_automaton.specs.Registers.{EachOf, each, spans_of, map_each}
use Rattle.ts_automaton.proofs.Five.{registers_parts}
use Rattle.ts_hull.specs.Cuts.{Cut, front_hull}
use Rattle.ts_hull.specs.Hulls.{hull_of, none as none_hull}
use Rattle.ts_hull.specs.Sealed.{some_hull}
use Rattle.ts_hull.specs.Smalls.{small_int, small, small_span, small_hull}
use Rattle.ts_hull.specs.Splits.{front_span}
use Rattle.ts_hull.proofs.SplitLaws.{small_spans}
use Rattle.ts_sweep.specs.declared.packed.Ends.{Ends}
use Rattle.ts_sweep.specs.declared.packed.Name.{Name}
use Rattle.ts_sweep.specs.declared.packed.Name.TheVariants.{C, E, D, F, R}
use Rattle.ts_sweep.specs.Small.{IsSmall}
use Rattle.ts_sweep.specs.Lanes.{least, no_lanes}
use Rattle.ts_sweep.specs.Packed.{upper, negated, ends, ends_span, is_wide, place_in, place, with_ends_in, unpacked, AreSome, IsPacked, IsPackOf, IsUnder, IsWithin}
use Rattle.ts_sweep.specs.PackedLaws.{same_ends, none_unpacked, beyond}
use Rattle.ts_sweep.specs.FrontLaws.{upper_small, neg_small, neg_neg, above_least}
use Rattle.ts_sweep.specs.Moves.{of_name, with_all}
use Rattle.ts_sweep.specs.MoveLaws.{IsPackAt, all_packed, all_unpacked, front_none, set_at}
use Rattle.ts_sweep.specs.Sides.{Sides, BothEnds, UpperEnds, LowerEnds, count_by, filled, lanes_by}
use Rattle.ts_sweep.specs.SidesLaws.{lower_above, lower_ends, lower_length, upper_above, upper_ends, upper_length}
use Rattle.ts_sweep.specs.Strided.{span_ends, lanes_of, IsPackable}
use Rattle.ts_sweep.specs.Trees.{lane_of}
use Rattle.ts_sweep.proofs.Replaced.{same_each}

pub small_bounds : (x : ℤ) → small_int x ≡ true → IsWithin 1 x
small_bounds x h = (grind (arith, ints), grind (arith, ints))

pub small_value : (x : ℤ) → IsSmall x → small_int x ≡ true
small_value x h = let a = h.0 in let b = h.1 in grind (arith, ints)

lane_is : (e : Ext) → small e ≡ true → upper (lane_of e) ≡ e
lane_is NegInf h = refl
lane_is (Int x) h = upper_small x (small_bounds x h)
lane_is PosInf h = refl

low_lane_is : (e : Ext) → small e ≡ true → negated (upper (lane_of (negated e))) ≡ e
low_lane_is NegInf h = refl
low_lane_is (Int x) h = ap negated (upper_small (neg_ℤ x) (neg_small x (small_bounds x h))) ∙ ap Int (neg_neg x)
low_lane_is PosInf h = refl

low_above : least <ℤ negsuc 9223372036854775806
low_above = grind (arith, ints)

high_above : least <ℤ pos 9223372036854775807
high_above = grind (arith, ints)

lane_above : (e : Ext) → small e ≡ true → least <ℤ lane_of e
lane_above NegInf h = low_above
lane_above (Int x) h = above_least x (small_bounds x h)
lane_above PosInf h = high_above

low_lane_above : (e : Ext) → small e ≡ true → least <ℤ lane_of (negated e)
low_lane_above NegInf h = high_above
low_lane_above (Int x) h = above_least (neg_ℤ x) (neg_small x (small_bounds x h))
low_lane_above PosInf h = low_above

abbrev span_from : Ext → Ext → Span
span_from lo hi = record { lo = lo; hi = hi }

both_ends : (a b c d : Ext) → a ≡ c → b ≡ d → span_from a b ≡ span_from c d
both_ends a b c d p q = cc

span_lanes : (s : Span) → small_span s ≡ true → ends_span (ends (lane_of (negated s.lo)) (lane_of s.hi)) ≡ s
span_lanes s h =
    let p = and_parts (small s.lo) (small s.hi) h in
    both_ends _ _ _ _ (low_lane_is s.lo p.0) (lane_is s.hi p.1)

-- lanes of 0 hold a register at each place

zero_above : least <ℤ pos 0
zero_above = grind (arith, ints)

pub zeros_some : (n : ℕ) → AreSome n (replicate n (pos 0))
zeros_some n = record {
  len = length-replicate n (pos 0);
  above = λ k lt. subst (λ z. least <ℤ z) (sym (get_or-replicate n k (pos 0) (pos 0) lt)) zero_above;
  some = λ r lt. ap (λ e. has_some (ends_span e))
      (same_ends _ _ _ _ (get_or-replicate n (2 * r) (pos 0) (pos 0) (omega (arith, lt))) (get_or-replicate n (2 * r + 1) (pos 0) (pos 0) lt));
}

-- lanes of 0, with an end beside each, hold a register at each place

zero_at : (n k : ℕ) → least <ℤ get_or (replicate n (pos 0)) k (pos 0)
zero_at zero k = zero_above
zero_at (suc n) zero = zero_above
zero_at (suc n) (suc k) = zero_at n k

pub zeros_by : (s : Sides) (n : ℕ) → AreSome (count_by s n) (lanes_by s (replicate n (pos 0)))
zeros_by BothEnds n = zeros_some n
zeros_by UpperEnds n =
    let long = length-replicate n (pos 0) in
    record {
      len = let twice = upper_length (replicate n (pos 0)) in omega (arith, twice, long);
      above = λ k lt. upper_above (replicate n (pos 0)) (zero_at n) k;
      some = λ r lt. ap (λ e. has_some (ends_span e)) (upper_ends (replicate n (pos 0)) r (omega (arith, long, lt))
          ∙ ap (λ x. ends (filled x) x) (get_or-replicate n r (pos 0) (pos 0) (omega (arith, lt))));
    }
zeros_by LowerEnds n =
    let long = length-replicate n (pos 0) in
    record {
      len = let twice = lower_length (replicate n (pos 0)) in omega (arith, twice, long);
      above = λ k lt. lower_above (replicate n (pos 0)) (zero_at n) k;
      some = λ r lt. ap (λ e. has_some (ends_span e)) (lower_ends (replicate n (pos 0)) r (omega (arith, long, lt))
          ∙ ap (λ x. ends x (filled x)) (get_or-replicate n r (pos 0) (pos 0) (omega (arith, lt))));
    }

-- the ends of a small span stand for it
span_packs : (s : Span) → small_span s ≡ true → has_some s ≡ true → IsPackOf (span_ends s) s
span_packs s h some =
    let p = and_parts (small s.lo) (small s.hi) h in
    record {
      some = record { below = low_lane_above s.lo p.0; above = lane_above s.hi p.1; some = ap has_some (span_lanes s h) ∙ some };
      span = span_lanes s h;
    }

-- a hull in which registers lie, by its ends

abbrev hull_ends : Hull → Name → Ends
hull_ends h k = span_ends (of_name (spans_of h) k)

hull_packs : (n : ℕ) (h : Hull) → IsPackable n h → some_hull h ≡ true → (k : Name) → IsPackAt (place n k) (hull_ends h k) (of_name (spans_of h) k)
hull_packs n h p some C = span_packs h.c (small_spans h p.small).0 (registers_parts (spans_of h) some).0
hull_packs n h p some E = go (is_wide n) refl
  where
    go : (b : Bool) → is_wide n ≡ b → IsPackAt (place_in b E) (span_ends h.e) h.e
    go true e = span_packs h.e (small_spans h p.small).1 (registers_parts (spans_of h) some).1
    go false e = (p.rests e some).0
hull_packs n h p some D = span_packs h.d (small_spans h p.small).2 (registers_parts (spans_of h) some).2
hull_packs n h p some F = go (is_wide n) refl
  where
    go : (b : Bool) → is_wide n ≡ b → IsPackAt (place_in b F) (span_ends h.f) h.f
    go true e = span_packs h.f (small_spans h p.small).3 (registers_parts (spans_of h) some).3
    go false e = (p.rests e some).1
hull_packs n h p some R = span_packs h.r (small_spans h p.small).4 (registers_parts (spans_of h) some).4

-- the lanes of a hull in which registers lie
abbrev some_of : ℕ → Hull → List ℤ
some_of n h = with_all n (replicate n (pos 0)) (hull_ends h)

lanes_some : (n : ℕ) (h : Hull) → some_hull h ≡ true → lanes_of n h ≡ some_of n h
unfolding lanes_of
lanes_some n h e = ap (λ b. cond b (some_of n h) (no_lanes n)) e

pub lanes_none : (n : ℕ) (h : Hull) → some_hull h ≡ false → lanes_of n h ≡ no_lanes n
unfolding lanes_of
lanes_none n h e = ap (λ b. cond b (some_of n h) (no_lanes n)) e

some_packed : (n : ℕ) (h : Hull) → 6 ≤ n → IsPackable n h → some_hull h ≡ true → AreSome n (some_of n h)
some_packed n h big p e =
    all_packed n (replicate n (pos 0)) (hull_ends h) (of_name (spans_of h)) big (zeros_some n) (hull_packs n h p e)

some_is : (n : ℕ) (h : Hull) → 6 ≤ n → IsPackable n h → some_hull h ≡ true → unpacked (some_of n h) ≡ h
some_is n h big p e =
    all_unpacked n (replicate n (pos 0)) (hull_ends h) (of_name (spans_of h)) big (zeros_some n) (hull_packs n h p e)

pub hull_packed : (n : ℕ) (h : Hull) → 6 ≤ n → IsPackable n h → IsPacked n (lanes_of n h)
hull_packed n h big p = go (some_hull h) refl
  where
    go : (b : Bool) → some_hull h ≡ b → IsPacked n (lanes_of n h)
    go true e = inr (subst (AreSome n) (sym (lanes_some n h e)) (some_packed n h big p e))
    go false e = inl (lanes_none n h e)

-- lanes that are made register by register
pub packed_lanes_of : (n : ℕ) (h : Hull) (x : EachOf Ends) (xs : List ℤ) → some_hull h ≡ true → x.c ≡ span_ends h.c → x.e ≡ span_ends h.e →
    x.d ≡ span_ends h.d →
    x.f ≡ span_ends h.f → x.r ≡ span_ends h.r → xs ≡ with_all n (replicate n (pos 0)) (of_name x) → xs ≡ lanes_of n h
packed_lanes_of n h x xs some c e d f r is =
    let same : x ≡ each (span_ends h.c) (span_ends h.e) (span_ends h.d) (span_ends h.f) (span_ends h.r) = same_each c e d f r in
    is ∙ ap (λ z. with_all n (replicate n (pos 0)) (of_name z)) same ∙ sym (lanes_some n h some)

-- what a move makes of a hull is what it makes of its lanes
pub front_same : (k : Cut) (n : ℕ) (h : Hull) (v : ℤ) → 6 ≤ n → IsPackable n h → front_hull k (unpacked (lanes_of n h)) v ≡ front_hull k h v
unfolding front_hull
front_same k n h v big p = go (some_hull h) refl
  where
    go : (b : Bool) → some_hull h ≡ b → front_hull k (unpacked (lanes_of n h)) v ≡ front_hull k h v
    go true e = ap (λ z. front_hull k z v) (ap unpacked (lanes_some n h e) ∙ some_is n h big p e)
    go false e =
        ap (λ z. front_hull k z v) (ap unpacked (lanes_none n h e) ∙ none_unpacked n big) ∙ front_none k v
        ∙ sym (ap (λ b. cond b (hull_of (map_each (λ q. front_span q h v) k)) none_hull) e)
