-- Where runs start.
use Rattle.std.proofs.Common.{◌≡◌, ℕ, zero, suc, ◌<◌, ◌≤◌, ◌⊎◌, inl, inr, Bool, true, false, cond, ◌&&◌, ◌||◌, int_eq, ℤ, pos, None, Some, List, [], get_or, length, replicate, set, refl, sym, ap, subst, ◌∙◌, arith}
use Rattle.std.proofs.Math.Dec.{eqb-suc-zero}
use Rattle.std.proofs.lemmas.Bool.{and_parts}
use Rattle.std.proofs.lemmas.Int.{ints}
use Rattle.std.proofs.lemmas.List.{get_or-replicate, get_or-set_other, get_or-set_same, length-replicate, length-set}
use Rattle.ts_base.specs.declared.ext.Ext.{Ext}
use Rattle.ts_base.specs.declared.ext.Ext.TheVariants.{NegInf, Int, PosInf}
use Rattle.ts_base.specs.declared.span.Span.{Span}
use Rattle.ts_base.specs.Spans.{one_span}
use Rattle.ts_automaton.specs.Body.{Body}
use Rattle.ts_automaton.specs.Registers.{EachOf, rests}
use Rattle.ts_automaton.specs.SpanRun.{one_hull}
use Rattle.ts_automaton.specs.Typing.{each_is, is_constant, is_number_zero}
use Rattle.ts_hull.specs.Hulls.{hull_of, none}
use Rattle.ts_row.specs.Rows.{AreAll, IsCleared, IsColumn, IsHull, IsRow, hull_in, lanes_of, nothing, start_hull}
use Rattle.ts_sweep.specs.declared.packed.Ends.{Ends}
use Rattle.ts_sweep.specs.declared.packed.Name.{Name}
use Rattle.ts_sweep.specs.declared.packed.PackedHull.{PackedHull}
use Rattle.ts_sweep.specs.FrontLaws.{zero_is_small, one_is_small}
use Rattle.ts_sweep.specs.Moves.{of_name, with_all}
use Rattle.ts_sweep.specs.MoveLaws.{IsPackAt, all_kept, all_packed, all_unpacked, by_names, seen_at}
use Rattle.ts_sweep.specs.Packed.{unpacked, place, AreSome, IsPacked, IsPackOf, IsWithin}
use Rattle.ts_sweep.specs.Sides.{Sides, BothEnds, has_wide, kept_ends, lane_count, lanes_in, seen_hull, sides}
use Rattle.ts_sweep.specs.SidesLaws.{alone, both_kept, ends_of_pack, kept_packs, narrow_or_both, none_by}
use Rattle.ts_sweep.specs.PackedLaws.{none_unpacked}
use Rattle.ts_sweep.proofs.HullLanes.{zeros_by}
use Rattle.ts_sweep.proofs.SeenLaws.{none_seen}
use Rattle.ts_sweep.proofs.Widths.{both_zero}

-- a start constant that is a number is small
pub constant_small : (x : ℤ) → is_constant (Int x) ≡ true → IsWithin 1 x
constant_small x is = go (int_eq x (pos 0)) refl
  where
    go : (b : Bool) → int_eq x (pos 0) ≡ b → IsWithin 1 x
    go true e = let zero : x ≡ pos 0 = grind (arith, ints, e) in subst (IsWithin 1) (sym zero) zero_is_small
    go false e =
        let one : int_eq x (pos 1) ≡ true = ap (λ b. b || int_eq x (pos 1)) (sym e) ∙ is in
        let same : x ≡ pos 1 = grind (arith, ints, one) in
        subst (IsWithin 1) (sym same) one_is_small

five_parts : (c e d f r : Bool) → (c && e && d && f && r) ≡ true → (c ≡ true) × (e ≡ true) × (d ≡ true) × (f ≡ true) × (r ≡ true)
five_parts c e d f r h =
    let p = and_parts (c && e && d && f) r h in
    let q = and_parts (c && e && d) f p.0 in
    let s = and_parts (c && e) d q.0 in
    let t = and_parts c e s.0 in (t.0, t.1, s.1, q.1, p.1)

-- the constants of all registers
pub all_constants : (a : EachOf Ext) → each_is is_constant a ≡ true →
    (is_constant a.c ≡ true) × (is_constant a.e ≡ true) × (is_constant a.d ≡ true) × (is_constant a.f ≡ true) × (is_constant a.r ≡ true)
all_constants a h = five_parts (is_constant a.c) (is_constant a.e) (is_constant a.d) (is_constant a.f) (is_constant a.r) h

number_zero : (e : Ext) → is_number_zero e ≡ true → e ≡ Int (pos 0)
number_zero NegInf h = cc
number_zero (Int x) h = let zero : x ≡ pos 0 = grind (arith, ints, h) in ap Int zero
number_zero PosInf h = cc

rest_packs : (s : Sides) (wide : Bool) (p : ℕ) (e : Ext) (x : Ends) → (s ≡ BothEnds) ⊎ (wide ≡ false) → IsPackOf x (one_span e) →
    (wide ≡ false → is_number_zero e ≡ true) → IsPackAt (cond wide (Some p) None) (kept_ends s x) (one_span e)
rest_packs s true p e x alone pack rests =
    both_kept s x (one_span e) (narrow_or_both s true alone refl) (ends_of_pack s x (one_span e) pack)
rest_packs s false p e x alone pack rests = ap one_span (number_zero e (rests refl))

pub start_packed : (n : ℕ) (h : PackedHull n) (start : EachOf Ext) (e : EachOf Ends) → 6 ≤ lane_count n →
    rests is_number_zero (has_wide n) start ≡ true →
    lanes_of n h ≡ with_all (lane_count n) (lanes_in n (replicate n (pos 0))) (all_kept (sides n) (of_name e)) → IsPackOf e.c (one_span start.c) →
    IsPackOf e.e (one_span start.e) → IsPackOf e.d (one_span start.d) → IsPackOf e.f (one_span start.f) → IsPackOf e.r (one_span start.r) →
    IsHull n (hull_of (one_hull start)) h
start_packed n h start e big rest is pc pe pd pf pr =
    let s = sides n in
    let m = lane_count n in
    let zeros = zeros_by s n in
    let kept : Name → Ends = all_kept s (of_name e) in
    let value : Name → Span = λ k. seen_at s k (one_span (of_name start k)) in
    let zero = both_zero (has_wide n) (is_number_zero start.e) (is_number_zero start.f) rest in
    let packs : (k : Name) → IsPackAt (place m k) (kept k) (value k) =
    by_names (λ k. IsPackAt (place m k) (kept k) (value k)) (kept_packs s e.c _ (ends_of_pack s e.c _ pc))
    (rest_packs s (has_wide n) 1 start.e e.e (alone n) pe (λ w. (zero w).0)) (kept_packs s e.d _ (ends_of_pack s e.d _ pd))
    (rest_packs s (has_wide n) 3 start.f e.f (alone n) pf (λ w. (zero w).1)) (kept_packs s e.r _ (ends_of_pack s e.r _ pr)) in (
      inr (subst (AreSome m) (sym is) (all_packed m (lanes_in n (replicate n (pos 0))) kept value big zeros packs)),
      ap unpacked is ∙ all_unpacked m (lanes_in n (replicate n (pos 0))) kept value big zeros packs,
    )

column_packed : (n k : ℕ) (h : PackedHull n) (column : List (PackedHull n)) → IsPacked (lane_count n) (lanes_of n h) → AreAll n h k column →
    IsColumn n k column
column_packed n k h column packed all = (all.0, λ i lt. subst (λ z. IsPacked (lane_count n) (lanes_of n z)) (sym (all.1 i lt)) packed)

-- the start registers in the first column, and nothing in the others
module _ (n s k : ℕ) (b : Body) (h : PackedHull n) (row new : List (List (PackedHull n))) (big : 6 ≤ lane_count n) (some : 0 < s) (is : IsCleared n s k row)
    (begun : new ≡ set row 0 (replicate (length (get_or row 0 [])) h)) (start : IsHull n (hull_of (one_hull b.start)) h) where
  made : new ≡ set row 0 (replicate k h)
  made = begun ∙ ap (λ i. set row 0 (replicate i h)) (is.columns 0 some).0

  first : AreAll n h k (get_or new 0 [])
  first =
      let long = is.len in
      let here = ap (λ z. get_or z 0 []) made ∙ get_or-set_same row 0 (replicate k h) [] (omega (arith, long, some)) in
      (ap length here ∙ length-replicate k h, λ i less. ap (λ z. get_or z i (nothing n)) here ∙ get_or-replicate k i h (nothing n) less)

  other : (q : ℕ) → 0 < q → q < s → AreAll n (nothing n) k (get_or new q [])
  other q more lt =
      subst (AreAll n (nothing n) k)
      (sym (ap (λ z. get_or z q []) made ∙ get_or-set_other row 0 q (replicate k h) [] (λ e. omega (arith, e, more)))) (is.columns q lt)

  columns : (q : ℕ) → q < s → IsColumn n k (get_or new q [])
  columns zero lt = column_packed n k h (get_or new 0 []) start.0 first
  columns (suc q) lt = column_packed n k (nothing n) (get_or new (suc q) []) (inl (none_by (sides n) n)) (other (suc q) (omega arith) lt)

  hulls : (t j : ℕ) → t < s → j < k → hull_in n new t j ≡ seen_hull (sides n) (start_hull b t)
  unfolding start_hull
  hulls zero j lt less = ap (λ z. unpacked (lanes_of n z)) (first.1 j less) ∙ start.1
  hulls (suc t) j lt less =
      ap (λ z. unpacked (lanes_of n z)) ((other (suc t) (omega arith) lt).1 j less)
      ∙ ap unpacked (none_by (sides n) n) ∙ none_unpacked (lane_count n) big ∙ sym (none_seen (sides n))
      ∙ ap (λ z. seen_hull (sides n) (cond z (hull_of (one_hull b.start)) none)) (sym (eqb-suc-zero t))

  pub started : IsRow n s k new × ((t j : ℕ) → t < s → j < k → hull_in n new t j ≡ seen_hull (sides n) (start_hull b t))
  started = (record { len = ap length made ∙ length-set row 0 (replicate k h) ∙ is.len; columns = columns }, hulls)
