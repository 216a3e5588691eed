-- The laws of lanes of one end.
-- Lemmas, no definitions: they are here since ghost members of impls cite them.
use Rattle.std.proofs.Common.{◌≡◌, ◌⊎◌, inl, inr, ℕ, zero, suc, ◌+◌, ◌*◌, ◌<◌, ◌≤◌, ◌≤ℤ◌, ◌<ℤ◌, ℤ, pos, negsuc, Bool, true, false, cond, not, nat_eq, Option, None, Some, List, [], ◌∷◌, length, get_or, set, replicate, refl, sym, ap, subst, ◌∙◌, arith}
use Rattle.std.specs.Int.{int_max}
use Rattle.std.proofs.lemmas.Int.{ints}
use Rattle.std.proofs.lemmas.Bool.{eqb-true}
use Rattle.std.proofs.lemmas.List.{length-replicate, get_or-replicate}
use Rattle.ts_base.specs.Numbers.{ext_le}
use Rattle.ts_base.specs.declared.ext.Ext.{Ext}
use Rattle.ts_base.specs.declared.ext.Ext.TheVariants.{NegInf, Int, PosInf}
use Rattle.ts_base.specs.declared.span.Span.{Span}
use Rattle.ts_base.specs.Spans.{has_some, none_span}
use Rattle.ts_hull.specs.Sealed.{span_from}
use Rattle.ts_hull.proofs.HullLaws.{same_hull}
use Rattle.ts_sweep.specs.declared.packed.Ends.{Ends}
use Rattle.ts_sweep.specs.declared.packed.Name.{Name}
use Rattle.ts_sweep.specs.declared.packed.Name.TheVariants.{C, D, R}
use Rattle.std.specs.Ordering.{int_eq}
use Rattle.ts_sweep.specs.Lanes.{least, no_lanes, greater_of, some_lanes, AreLanes}
use Rattle.ts_sweep.specs.LaneLaws.{cons_same, lanes_commutative, lanes_neutral}
use Rattle.ts_sweep.specs.FrontLaws.{if_above, if_below, never_added}
use Rattle.ts_sweep.specs.Packed.{ends, ends_at, ends_in, ends_span, is_wide, name_ends, negated, place, register_span, span_of, unpacked, upper, with_ends_in, IsPacked, IsPackOf}
use Rattle.ts_sweep.specs.PackedLaws.{same_ends, some_lanes_are, packed_length, placed_by}
use Rattle.ts_sweep.specs.UpperLaws.{upper_low}
use Rattle.ts_sweep.specs.Sides.{Sides, BothEnds, UpperEnds, LowerEnds, sides, filled, upper_lanes, lower_lanes, lanes_by, lanes_in, count_by, has_wide, lane_count, every_other, as_read, read_ends, kept_ends, with_kept, seen, seen_hull, IsLower, IsUpper, IsEndsOf}

-- the end beside the greater of two

filled_max : (x y : ℤ) → filled (int_max x y) ≡ int_max (filled x) (filled y)
filled_max x y = grind (arith, ints)

two_more : (a b c d : ℤ) (xs ys : List ℤ) → a ≡ b → c ≡ d → xs ≡ ys → (a ∷ c ∷ xs) ≡ (b ∷ d ∷ ys)
two_more a b c d xs ys p q r = cons_same _ _ _ _ p (cons_same _ _ _ _ q r)

upper_both : (xs ys : List ℤ) → upper_lanes (greater_of xs ys) ≡ greater_of (upper_lanes xs) (upper_lanes ys)
unfolding upper_lanes greater_of
upper_both [] ys = refl
upper_both (x ∷ xs) [] = refl
upper_both (x ∷ xs) (y ∷ ys) = two_more _ _ _ _ _ _ (filled_max x y) refl (upper_both xs ys)

lower_both : (xs ys : List ℤ) → lower_lanes (greater_of xs ys) ≡ greater_of (lower_lanes xs) (lower_lanes ys)
unfolding lower_lanes greater_of
lower_both [] ys = refl
lower_both (x ∷ xs) [] = refl
lower_both (x ∷ xs) (y ∷ ys) = two_more _ _ _ _ _ _ refl (filled_max x y) (lower_both xs ys)

pub joined_by : (s : Sides) (xs ys : List ℤ) → lanes_by s (greater_of xs ys)
    ≡ greater_of (lanes_by s xs) (lanes_by s ys)
joined_by BothEnds xs ys = refl
joined_by UpperEnds xs ys = upper_both xs ys
joined_by LowerEnds xs ys = lower_both xs ys

-- nothing in lanes of one end is nothing in all

two_least : (n : ℕ) → (least ∷ least ∷ no_lanes (n + n)) ≡ no_lanes (suc n + suc n)
two_least n = let e : suc (suc (n + n)) ≡ suc n + suc n = omega arith in ap (λ k. replicate k least) e

upper_none : (n : ℕ) → upper_lanes (no_lanes n) ≡ no_lanes (n + n)
unfolding upper_lanes
upper_none zero = refl
upper_none (suc n) = two_more _ _ _ _ _ _ refl refl (upper_none n) ∙ two_least n

lower_none : (n : ℕ) → lower_lanes (no_lanes n) ≡ no_lanes (n + n)
unfolding lower_lanes
lower_none zero = refl
lower_none (suc n) = two_more _ _ _ _ _ _ refl refl (lower_none n) ∙ two_least n

pub none_by : (s : Sides) (n : ℕ) → lanes_by s (no_lanes n) ≡ no_lanes (count_by s n)
none_by BothEnds n = refl
none_by UpperEnds n = upper_none n
none_by LowerEnds n = lower_none n

-- another end at a place

set_upper : (xs : List ℤ) (p : ℕ) (x : ℤ) → upper_lanes (set xs p x) ≡ set (set (upper_lanes xs) (2 * p) (filled x))
    (2 * p + 1) x
unfolding upper_lanes
set_upper [] p x = refl
set_upper (y ∷ xs) zero x = refl
set_upper (y ∷ xs) (suc p) x =
    let a : suc (suc (2 * p)) ≡ 2 * suc p = omega arith in
    let b : suc (suc (2 * p + 1)) ≡ 2 * suc p + 1 = omega arith in
    ap (λ zs. filled y ∷ y ∷ zs) (set_upper xs p x)
    ∙ ap (λ k. set (set (filled y ∷ y ∷ upper_lanes xs) k (filled x)) (suc (suc (2 * p + 1))) x) a
    ∙ ap (λ k. set (set (filled y ∷ y ∷ upper_lanes xs) (2 * suc p) (filled x)) k x) b

set_lower : (xs : List ℤ) (p : ℕ) (x : ℤ) → lower_lanes (set xs p x) ≡ set (set (lower_lanes xs) (2 * p) x) (2 * p + 1)
    (filled x)
unfolding lower_lanes
set_lower [] p x = refl
set_lower (y ∷ xs) zero x = refl
set_lower (y ∷ xs) (suc p) x =
    let a : suc (suc (2 * p)) ≡ 2 * suc p = omega arith in
    let b : suc (suc (2 * p + 1)) ≡ 2 * suc p + 1 = omega arith in
    ap (λ zs. y ∷ filled y ∷ zs) (set_lower xs p x)
    ∙ ap (λ k. set (set (y ∷ filled y ∷ lower_lanes xs) k x) (suc (suc (2 * p + 1))) (filled x)) a
    ∙ ap (λ k. set (set (y ∷ filled y ∷ lower_lanes xs) (2 * suc p) x) k (filled x)) b

pub replaced_by : (s : Sides) (xs : List ℤ) (o : Option ℕ) (e : Ends) → lanes_by s (with_kept s xs o e)
    ≡ with_ends_in (lanes_by s xs) o (kept_ends s e)
replaced_by BothEnds xs o e = refl
replaced_by UpperEnds xs None e = refl
replaced_by UpperEnds xs (Some p) e = set_upper xs p e.above
replaced_by LowerEnds xs None e = refl
replaced_by LowerEnds xs (Some p) e = set_lower xs p e.below

-- what is read of lanes with both ends

shifted : (x y : ℤ) (xs : List ℤ) (p : ℕ) → ends_at (x ∷ y ∷ xs) (suc p) ≡ ends_at xs p
shifted x y xs p =
    let a : 2 * suc p ≡ suc (suc (2 * p)) = omega arith in
    let b : 2 * suc p + 1 ≡ suc (suc (2 * p + 1)) = omega arith in
    same_ends _ _ _ _ (ap (λ k. get_or (x ∷ y ∷ xs) k (pos 0)) a) (ap (λ k. get_or (x ∷ y ∷ xs) k (pos 0)) b)

short : (x : ℤ) (p : ℕ) → ends_at (x ∷ []) (suc p) ≡ ends (pos 0) (pos 0)
short x p =
    let a : 2 * suc p ≡ suc (suc (2 * p)) = omega arith in
    let b : 2 * suc p + 1 ≡ suc (suc (2 * p + 1)) = omega arith in
    same_ends _ _ _ _ (ap (λ k. get_or (x ∷ []) k (pos 0)) a) (ap (λ k. get_or (x ∷ []) k (pos 0)) b)

low_at : (xs : List ℤ) (p : ℕ) → ends_at (every_other true xs) p ≡ read_ends LowerEnds (ends_at xs p)
unfolding every_other
low_at [] p = refl
low_at (x ∷ []) zero = refl
low_at (x ∷ []) (suc p) = short x p ∙ sym (ap (read_ends LowerEnds) (short x p))
low_at (x ∷ y ∷ xs) zero = refl
low_at (x ∷ y ∷ xs) (suc p) =
    shifted x (pos 0) (every_other true xs) p ∙ low_at xs p ∙ sym (ap (read_ends LowerEnds) (shifted x y xs p))

high_at : (xs : List ℤ) (p : ℕ) → ends_at (every_other false xs) p ≡ read_ends UpperEnds (ends_at xs p)
unfolding every_other
high_at [] p = refl
high_at (x ∷ []) zero = refl
high_at (x ∷ []) (suc p) = short (pos 0) p ∙ sym (ap (read_ends UpperEnds) (short x p))
high_at (x ∷ y ∷ xs) zero = refl
high_at (x ∷ y ∷ xs) (suc p) =
    shifted (pos 0) y (every_other false xs) p ∙ high_at xs p ∙ sym (ap (read_ends UpperEnds) (shifted x y xs p))

pub read_in : (s : Sides) (xs : List ℤ) (o : Option ℕ) → ends_in (as_read s xs) o ≡ read_ends s (ends_in xs o)
read_in BothEnds xs o = refl
read_in UpperEnds xs None = refl
read_in UpperEnds xs (Some p) = high_at xs p
read_in LowerEnds xs None = refl
read_in LowerEnds xs (Some p) = low_at xs p

every_length : (b : Bool) (xs : List ℤ) → length (every_other b xs) ≡ length xs
unfolding every_other
every_length b [] = refl
every_length b (x ∷ xs) = ap suc (every_length (not b) xs)

pub read_length : (s : Sides) (xs : List ℤ) → length (as_read s xs) ≡ length xs
read_length BothEnds xs = refl
read_length UpperEnds xs = every_length false xs
read_length LowerEnds xs = every_length true xs

-- a hull of one end is narrow

pub alone : (n : ℕ) → (sides n ≡ BothEnds) ⊎ (has_wide n ≡ false)
alone n = go (nat_eq n 3) (nat_eq n 4) refl refl
  where
    go : (a b : Bool) → nat_eq n 3 ≡ a → nat_eq n 4 ≡ b → (sides n ≡ BothEnds) ⊎ (has_wide n ≡ false)
    go true b e f = inr (ap (λ k. is_wide (lane_count k)) (eqb-true n 3 e))
    go false true e f = inr (ap (λ k. is_wide (lane_count k)) (eqb-true n 4 f))
    go false false e f =
        inl (ap (λ c. cond c UpperEnds (cond (nat_eq n 4) LowerEnds BothEnds)) e
        ∙ ap (λ c. cond c LowerEnds BothEnds) f)

-- lanes in which something lies hold something with both ends too

filled_some : (x : ℤ) → least <ℤ x → filled x ≡ pos 9223372036854775807
filled_some x h = grind (arith, ints)

most_above : least <ℤ pos 9223372036854775807
most_above = grind (arith, ints)

pub upper_above : (xs : List ℤ) → ((k : ℕ) → least <ℤ get_or xs k (pos 0)) → (k : ℕ) →
    least <ℤ get_or (upper_lanes xs) k (pos 0)
unfolding upper_lanes
upper_above [] h k = h k
upper_above (x ∷ xs) h zero = subst (λ z. least <ℤ z) (sym (filled_some x (h 0))) most_above
upper_above (x ∷ xs) h (suc zero) = h 0
upper_above (x ∷ xs) h (suc (suc k)) = upper_above xs (λ j. h (suc j)) k

pub lower_above : (xs : List ℤ) → ((k : ℕ) → least <ℤ get_or xs k (pos 0)) → (k : ℕ) →
    least <ℤ get_or (lower_lanes xs) k (pos 0)
unfolding lower_lanes
lower_above [] h k = h k
lower_above (x ∷ xs) h zero = h 0
lower_above (x ∷ xs) h (suc zero) = subst (λ z. least <ℤ z) (sym (filled_some x (h 0))) most_above
lower_above (x ∷ xs) h (suc (suc k)) = lower_above xs (λ j. h (suc j)) k

-- six lanes and more are those of both ends

pub full : (n : ℕ) → 6 ≤ n → sides n ≡ BothEnds
full n big = go (nat_eq n 3) (nat_eq n 4) refl refl
  where
    go : (a b : Bool) → nat_eq n 3 ≡ a → nat_eq n 4 ≡ b → sides n ≡ BothEnds
    go true b e f = let is = eqb-true n 3 e in absurd (omega (arith, big, is))
    go false true e f = let is = eqb-true n 4 f in absurd (omega (arith, big, is))
    go false false e f =
        ap (λ c. cond c UpperEnds (cond (nat_eq n 4) LowerEnds BothEnds)) e ∙ ap (λ c. cond c LowerEnds BothEnds) f

pub full_count : (n : ℕ) → 6 ≤ n → 6 ≤ lane_count n
full_count n big = subst (λ s. 6 ≤ count_by s n) (sym (full n big)) big

pub full_wide : (n : ℕ) → 6 ≤ n → has_wide n ≡ is_wide n
full_wide n big = ap (λ s. is_wide (count_by s n)) (full n big)

pub full_ends : (n : ℕ) (xs : List ℤ) (k : Name) → 6 ≤ n → name_ends (as_read (sides n) (lanes_in n xs)) k
    ≡ name_ends xs k
full_ends n xs k big = ap (λ s. name_ends (as_read s (lanes_by s xs)) k) (full n big)

pub full_with : (n : ℕ) (xs : List ℤ) (k : Name) (e : Ends) → 6 ≤ n →
    with_kept (sides n) xs (place (lane_count n) k) e ≡ with_ends_in xs (place n k) e
full_with n xs k e big = ap (λ s. with_kept s xs (place (count_by s n) k) e) (full n big)

-- nothing joined to packed lanes changes nothing

pub packed_are : (n : ℕ) (xs : List ℤ) → IsPacked n xs → AreLanes n xs
packed_are n xs (inl e) = (
  ap length e ∙ length-replicate n least,
  λ k lt. least_at xs n k e (let f = ap length e
      ∙ length-replicate n least in omega (arith, lt, f)),
)
  where
    same_least : (x : ℤ) → x ≡ least → least ≤ℤ x
    same_least x h = omega (arith, ints, h)

    least_at : (xs : List ℤ) (n k : ℕ) → xs ≡ no_lanes n → k < n → least ≤ℤ get_or xs k (pos 0)
    least_at xs n k e lt = same_least _ (ap (λ zs. get_or zs k (pos 0)) e ∙ get_or-replicate n k least (pos 0) lt)
packed_are n xs (inr h) = some_lanes_are n xs h

pub upper_length : (xs : List ℤ) → length (upper_lanes xs) ≡ length xs + length xs
unfolding upper_lanes
upper_length [] = refl
upper_length (x ∷ xs) = let h = upper_length xs in omega (arith, h)

pub lower_length : (xs : List ℤ) → length (lower_lanes xs) ≡ length xs + length xs
unfolding lower_lanes
lower_length [] = refl
lower_length (x ∷ xs) = let h = lower_length xs in omega (arith, h)

pub upper_get : (xs : List ℤ) (k : ℕ) → get_or (upper_lanes xs) (2 * k + 1) (pos 0) ≡ get_or xs k (pos 0)
unfolding upper_lanes
upper_get [] k = refl
upper_get (x ∷ xs) zero = refl
upper_get (x ∷ xs) (suc k) =
    let b : 2 * suc k + 1 ≡ suc (suc (2 * k + 1)) = omega arith in
    ap (λ j. get_or (filled x ∷ x ∷ upper_lanes xs) j (pos 0)) b ∙ upper_get xs k

pub lower_get : (xs : List ℤ) (k : ℕ) → get_or (lower_lanes xs) (2 * k) (pos 0) ≡ get_or xs k (pos 0)
unfolding lower_lanes
lower_get [] k = refl
lower_get (x ∷ xs) zero = refl
lower_get (x ∷ xs) (suc k) =
    let a : 2 * suc k ≡ suc (suc (2 * k)) = omega arith in
    ap (λ j. get_or (x ∷ filled x ∷ lower_lanes xs) j (pos 0)) a ∙ lower_get xs k

pub ones_are : (s : Sides) (n : ℕ) (xs : List ℤ) → AreLanes (count_by s n) (lanes_by s xs) → AreLanes n xs
ones_are BothEnds n xs h = h
ones_are UpperEnds n xs h =
    let long = upper_length xs in
    let all = h.0 in (
      omega (arith, long, all),
      λ k lt. subst (λ z. least ≤ℤ z) (upper_get xs k) (h.1 (2 * k + 1) (omega (arith, long, lt))),
    )
ones_are LowerEnds n xs h =
    let long = lower_length xs in
    let all = h.0 in (
      omega (arith, long, all),
      λ k lt. subst (λ z. least ≤ℤ z) (lower_get xs k) (h.1 (2 * k) (omega (arith, long, lt))),
    )

pub takes_none : (s : Sides) (n : ℕ) (xs : List ℤ) → IsPacked (count_by s n) (lanes_by s xs) →
    greater_of xs (no_lanes n) ≡ xs
takes_none s n xs p =
    lanes_commutative xs (no_lanes n) ∙ lanes_neutral n xs
    (ones_are s n xs (packed_are (count_by s n) (lanes_by s xs) p))

-- the ends that are kept stand for what is seen of a span

top_of : (a : Ext) → ext_le a PosInf ≡ true
top_of NegInf = refl
top_of (Int x) = refl
top_of PosInf = refl

same_span : (a b c d : Ext) → a ≡ c → b ≡ d → span_from a b ≡ span_from c d
same_span a b c d p q = cc

pub kept_packs : (s : Sides) (e : Ends) (t : Span) → IsEndsOf s e t → IsPackOf (kept_ends s e) (seen s t)
kept_packs BothEnds e t p =
    let is : ends_span e ≡ t = same_span _ _ _ _ p.below.1 p.above.1 in
    record {
      some = record { below = p.below.0; above = p.above.0; some = ap has_some is ∙ p.some };
      span = is;
    }
kept_packs UpperEnds e t p =
    let full = filled_some e.above p.above.0 in
    record {
      some = record {
        below = subst (λ z. least <ℤ z) (sym full) most_above;
        above = p.above.0;
        some = ap (λ z. has_some (span_of z e.above)) full;
      };
      span = ap (λ z. span_of z e.above) full ∙ ap (span_from NegInf) p.above.1
          ∙ sym (ap (λ b. cond b (span_from NegInf t.hi) none_span) p.some);
    }
kept_packs LowerEnds e t p =
    let full = filled_some e.below p.below.0 in
    record {
      some = record {
        below = p.below.0;
        above = subst (λ z. least <ℤ z) (sym full) most_above;
        some = ap (λ z. has_some (span_of e.below z)) full ∙ top_of (negated (upper e.below));
      };
      span = ap (span_of e.below) full ∙ ap (λ a. span_from a PosInf) p.below.1
          ∙ sym (ap (λ b. cond b (span_from t.lo PosInf) none_span) p.some);
    }

pub ends_of_pack : (s : Sides) (e : Ends) (t : Span) → IsPackOf e t → IsEndsOf s e t
ends_of_pack s e t p = record {
  some = ap has_some (sym p.span) ∙ p.some.some;
  below = if_below s (IsLower e.below t.lo) (p.some.below, ap (λ (u : Span). u.lo) p.span);
  above = if_above s (IsUpper e.above t.hi) (p.some.above, ap (λ (u : Span). u.hi) p.span);
}

pub read_pack : (s : Sides) (e : Ends) (t : Span) → IsEndsOf s e t → IsEndsOf s (read_ends s e) t
read_pack BothEnds e t p = p
read_pack UpperEnds e t p = record { some = p.some; below = tt; above = p.above }
read_pack LowerEnds e t p = record { some = p.some; below = p.below; above = tt }

pub read_kept : (s : Sides) (e : Ends) → read_ends s (kept_ends s e) ≡ read_ends s e
read_kept BothEnds e = refl
read_kept UpperEnds e = refl
read_kept LowerEnds e = refl

-- where both ends are kept, all is seen
pub both_kept : (s : Sides) (e : Ends) (t : Span) → s ≡ BothEnds → IsEndsOf s e t → IsPackOf (kept_ends s e) t
both_kept BothEnds e t is p = kept_packs BothEnds e t p
both_kept UpperEnds e t is p = cc
both_kept LowerEnds e t is p = cc

pub narrow_or_both : (s : Sides) (wide : Bool) → (s ≡ BothEnds) ⊎ (wide ≡ false) → wide ≡ true → s ≡ BothEnds
narrow_or_both s wide (inl e) t = e
narrow_or_both s wide (inr f) t = never_added (sym t ∙ f)

-- all that lanes of one end stand for is seen

least_or : (x : ℤ) → (x ≤ℤ least) ⊎ (least <ℤ x)
least_or x = grind (arith, ints)

filled_none : (x : ℤ) → x ≤ℤ least → filled x ≡ least
filled_none x h = grind (arith, ints)

at_most_low : (x : ℤ) → x ≤ℤ least → x ≤ℤ negsuc 9223372036854775806
at_most_low x h = grind (arith, ints)

span_upper : (x : ℤ) → seen UpperEnds (span_of (filled x) x) ≡ span_of (filled x) x
span_upper x = elim (least_or x) [
  | inl le ↦ (let none : span_of (filled x) x ≡ none_span =
      ap (λ z. span_of z x) (filled_none x le) ∙ ap (span_from PosInf) (upper_low x (at_most_low x le)) in
      ap (seen UpperEnds) none ∙ sym none)
  | inr lt ↦ ap (λ z. seen UpperEnds (span_of z x)) (filled_some x lt) ∙ sym (ap (λ z. span_of z x) (filled_some x lt))
]

span_lower : (x : ℤ) → seen LowerEnds (span_of x (filled x)) ≡ span_of x (filled x)
span_lower x = elim (least_or x) [
  | inl le ↦ (let none : span_of x (filled x) ≡ none_span =
      ap (span_of x) (filled_none x le) ∙ ap (λ a. span_from (negated a) NegInf) (upper_low x (at_most_low x le)) in
      ap (seen LowerEnds) none ∙ sym none)
  | inr lt ↦ ap (λ z. seen LowerEnds (span_of x z)) (filled_some x lt)
      ∙ ap (λ b. cond b (span_from (negated (upper x)) PosInf) none_span) (top_of (negated (upper x)))
      ∙ sym (ap (span_of x) (filled_some x lt))
]

pub upper_ends : (xs : List ℤ) (p : ℕ) → p < length xs → ends_at (upper_lanes xs) p
    ≡ ends (filled (get_or xs p (pos 0))) (get_or xs p (pos 0))
unfolding upper_lanes
upper_ends [] p lt = absurd (omega (arith, lt))
upper_ends (x ∷ xs) zero lt = refl
upper_ends (x ∷ xs) (suc p) lt = shifted (filled x) x (upper_lanes xs) p ∙ upper_ends xs p (omega (arith, lt))

pub lower_ends : (xs : List ℤ) (p : ℕ) → p < length xs → ends_at (lower_lanes xs) p
    ≡ ends (get_or xs p (pos 0)) (filled (get_or xs p (pos 0)))
unfolding lower_lanes
lower_ends [] p lt = absurd (omega (arith, lt))
lower_ends (x ∷ xs) zero lt = refl
lower_ends (x ∷ xs) (suc p) lt = shifted x (filled x) (lower_lanes xs) p ∙ lower_ends xs p (omega (arith, lt))

seen_at_place : (s : Sides) (n : ℕ) (xs : List ℤ) (p : ℕ) → length (lanes_by s xs) ≡ count_by s n →
    2 * p + 1 < count_by s n →
    seen s (register_span (lanes_by s xs) p) ≡ register_span (lanes_by s xs) p
seen_at_place BothEnds n xs p long lt = refl
seen_at_place UpperEnds n xs p long lt =
    let twice = upper_length xs in
    let is = upper_ends xs p (omega (arith, long, twice, lt)) in
    ap (λ e. seen UpperEnds (ends_span e)) is ∙ span_upper (get_or xs p (pos 0)) ∙ sym (ap ends_span is)
seen_at_place LowerEnds n xs p long lt =
    let twice = lower_length xs in
    let is = lower_ends xs p (omega (arith, long, twice, lt)) in
    ap (λ e. seen LowerEnds (ends_span e)) is ∙ span_lower (get_or xs p (pos 0)) ∙ sym (ap ends_span is)

pub shown : (s : Sides) (n : ℕ) (xs : List ℤ) → 6 ≤ count_by s n → IsPacked (count_by s n) (lanes_by s xs) →
    seen_hull s (unpacked (lanes_by s xs)) ≡ unpacked (lanes_by s xs)
unfolding unpacked
shown s n xs big p =
    let zs = lanes_by s xs in
    let long = packed_length (count_by s n) zs p in
    same_hull (seen_at_place s n xs 0 long (placed_by (count_by s n) zs C big long)) refl
    (seen_at_place s n xs (cond (is_wide (length zs)) 2 1) long (placed_by (count_by s n) zs D big long)) refl
    (seen_at_place s n xs (cond (is_wide (length zs)) 4 2) long (placed_by (count_by s n) zs R big long))

-- one end, as it is read

pub upper_read : (xs : List ℤ) (p : ℕ) → p < length xs →
    ends_in (as_read UpperEnds (lanes_by UpperEnds xs)) (Some p) ≡ ends (pos 0) (get_or xs p (pos 0))
upper_read xs p lt = high_at (upper_lanes xs) p ∙ ap (read_ends UpperEnds) (upper_ends xs p lt)

pub lower_read : (xs : List ℤ) (p : ℕ) → p < length xs →
    ends_in (as_read LowerEnds (lanes_by LowerEnds xs)) (Some p) ≡ ends (get_or xs p (pos 0)) (pos 0)
lower_read xs p lt = low_at (lower_lanes xs) p ∙ ap (read_ends LowerEnds) (lower_ends xs p lt)

-- how many lanes with both ends are made of lanes of one end
pub lanes_length : (s : Sides) (n : ℕ) (xs : List ℤ) → length xs ≡ n → length (lanes_by s xs) ≡ count_by s n
lanes_length BothEnds n xs e = e
lanes_length UpperEnds n xs e = let twice = upper_length xs in omega (arith, twice, e)
lanes_length LowerEnds n xs e = let twice = lower_length xs in omega (arith, twice, e)

-- the ends of a register, as the program reads them
pub upper_at : (n p : ℕ) (xs : List ℤ) (x : ℤ) → n ≡ 3 → p < length xs → x ≡ get_or xs p (pos 0) →
    ends (pos 0) x ≡ ends_at (as_read (sides n) (lanes_in n xs)) p
upper_at n p xs x three lt is =
    ap (ends (pos 0)) is ∙ sym (upper_read xs p lt)
    ∙ ap (λ m. ends_at (as_read (sides m) (lanes_in m xs)) p) (sym three)

pub lower_at : (n p : ℕ) (xs : List ℤ) (x : ℤ) → n ≡ 4 → p < length xs → x ≡ get_or xs p (pos 0) →
    ends x (pos 0) ≡ ends_at (as_read (sides n) (lanes_in n xs)) p
lower_at n p xs x four lt is =
    ap (λ z. ends z (pos 0)) is ∙ sym (lower_read xs p lt)
    ∙ ap (λ m. ends_at (as_read (sides m) (lanes_in m xs)) p) (sym four)

-- the first lane shows whether there is nothing
filled_is : (x : ℤ) → least ≤ℤ x → not (int_eq x least) ≡ not (int_eq (filled x) least)
filled_is x h = elim (least_or x) [
  | inl le ↦ (let same : x ≡ least = omega (arith, ints, h, le) in ap (λ z. not (int_eq z least)) same
      ∙ sym (ap (λ z. not (int_eq z least)) (filled_none x le)))
  | inr lt ↦ some_is x lt ∙ sym (ap (λ z. not (int_eq z least)) (filled_some x lt))
]
  where
    some_is : (x : ℤ) → least <ℤ x → not (int_eq x least) ≡ true
    some_is x h = grind (arith, ints)

pub some_by : (s : Sides) (xs : List ℤ) → least ≤ℤ get_or xs 0 (pos 0) → some_lanes xs ≡ some_lanes (lanes_by s xs)
unfolding upper_lanes lower_lanes
some_by BothEnds xs h = refl
some_by UpperEnds [] h = refl
some_by UpperEnds (x ∷ xs) h = filled_is x h
some_by LowerEnds [] h = refl
some_by LowerEnds (x ∷ xs) h = refl
