-- Numbers of a set that follow one another without a gap, and a set that is one range.
use Rattle.std.proofs.Common.{◌≡◌, ℕ, zero, suc, ◌+◌, ◌-◌, ◌<◌, ℤ, pos, neg_ℤ, ◌+ℤ◌, ◌-ℤ◌, ◌≤ℤ◌}
use Rattle.std.proofs.Common.{◌<ℤ◌, ◌↔◌, inl, inr, Bool, true, false, IsTrue, None, Some, List, [], ◌∷◌, length, get_or}
use Rattle.std.proofs.Common.{refl, sym, ap, ◌∙◌, subst, arith, slice_get, drop, append-nil}
use Rattle.std.proofs.lemmas.Int.{ints, to_z-of_z, by_lt_z}
use Rattle.std.proofs.lemmas.Option.{get_or_from_slice_get, slice_get_within}
use Rattle.std.proofs.Math.Seq.{drop-cons}
use mir.Val.{SFits}
use mir.Syntax.{w64}
use Rattle.std.specs.Prelude.{int_le, int_lt, Contains}
use Rattle.std.specs.Int.{int_min}
use Rattle.ts_domain.specs.declared.interval.Interval.{Interval}
use Rattle.ts_domain.specs.declared.marks.Mark.{Mark}
use Rattle.ts_domain.specs.declared.marks.Node.{Node}
use Rattle.ts_domain.specs.Marks.{mark_at, numbers}
use Rattle.ts_domain.specs.Pieces.{values_in, IsPiece, IsMarked, leading_count}
use Rattle.ts_domain.specs.Union.{InSome}
use Rattle.ts_domain.specs.Values.{IsRising, IsDomain, IsRange, StandFrom, AreNext, WithinLimits, RangesFrom, to_natural, least_of, values_between, values_of}
use Rattle.ts_domain.proofs.Sets.{contains_cons, nothing_in, each_contains, each_from}
use Rattle.ts_domain.proofs.Runs.{natural_is, length-between, rising_run, in_between, between_has}
use Rattle.ts_domain.proofs.Ranges.{value_in_some, some_has_value}
use Rattle.ts_domain.proofs.SameSets.{same_set}
use Rattle.ts_domain.proofs.PieceLaws.{contains_in, low_in, high_in}
use Rattle.ts_domain.proofs.PieceReads.{at_between, read_at}
use Rattle.ts_domain.proofs.CutLaws.{m, value_within, ends_small, le_is, not_lt}
use Rattle.ts_domain.proofs.Places.{ends_are, has_is, has_then, small_is}
use Rattle.ts_domain.proofs.Counts.{stops}
use Rattle.ts_domain.proofs.MarkLaws.{mark_before, mark_behind}
use Rattle.ts_domain.proofs.MarkReads.{Opened, medium_is}
use Rattle.ts_domain.proofs.MarkSets.{IsThere}
use Rattle.ts_domain.proofs.MarkedSets.{base_rises, marked_domain, marked_has, plain_is, plain_low, plain_between, at_contains}

abbrev bottom : ℤ
bottom = neg_ℤ (pos 1000000)

-- in a rising list, the next number above the one at a place stands at the place after it
pub next_at : (xs : List ℤ) (i : ℕ) (v : ℤ) → IsRising xs → slice_get xs i ≡ Some v → Contains xs (v +ℤ pos 1) → slice_get xs (suc i) ≡ Some (v +ℤ pos 1)
unfolding IsRising
next_at [] i v rise at has = cc
next_at (x ∷ []) zero v rise at has = let e : x ≡ v = cc in elim ((contains_cons x [] (v +ℤ pos 1)).0 has)
    [ inl s ↦ absurd (omega (arith, ints, e, s)) | inr there ↦ absurd (nothing_in (v +ℤ pos 1) there) ]
next_at (x ∷ y ∷ ys) zero v rise at has = let e : x ≡ v = cc in elim ((contains_cons x (y ∷ ys) (v +ℤ pos 1)).0 has) [
  | inl s ↦ absurd (omega (arith, ints, e, s))
  | inr later ↦ elim ((contains_cons y ys (v +ℤ pos 1)).0 later) [
    | inl s ↦ ap Some s
    | inr there ↦ let first = rise.0.0 in let lt = each_contains (λ z. y <ℤ z) ys (v +ℤ pos 1) rise.1.0 there in absurd (omega (arith, ints, e, first, lt))
  ]
]
next_at (x ∷ xs) (suc i) v rise at has = elim ((contains_cons x xs (v +ℤ pos 1)).0 has) [
  | inl s ↦ let lt = each_contains (λ z. x <ℤ z) xs v rise.0 (at_contains xs i v at) in absurd (omega (arith, ints, s, lt))
  | inr there ↦ next_at xs i v rise.1 at there
]

stand_at : (xs : List ℤ) (i : ℕ) (v : ℤ) (n : ℕ) → IsRising xs → slice_get xs i ≡ Some v → ((w : ℤ) → v ≤ℤ w → w ≤ℤ (v +ℤ pos n) → Contains xs w) →
    slice_get xs (i + n) ≡ Some (v +ℤ pos n)
stand_at xs i v zero rise at all =
    let place : i + 0 ≡ i = omega arith in let value : v ≡ v +ℤ pos 0 = omega (arith, ints) in ap (slice_get xs) place ∙ at ∙ ap (λ z. Some z) value
stand_at xs i v (suc n) rise at all =
    let place : i + suc n ≡ suc i + n = omega arith in let value : (v +ℤ pos 1) +ℤ pos n ≡ v +ℤ pos (suc n) = omega (arith, ints) in
    ap (slice_get xs) place ∙
    stand_at xs (suc i) (v +ℤ pos 1) n rise (next_at xs i v rise at (all (v +ℤ pos 1) (omega (arith, ints)) (omega (arith, ints))))
    (λ w from to. all w (omega (arith, ints, from)) (omega (arith, ints, to))) ∙ ap (λ z. Some z) value

-- numbers without a gap stand one after the other
pub stands : (xs : List ℤ) (i : ℕ) (v last : ℤ) → IsRising xs → slice_get xs i ≡ Some v → ((w : ℤ) → v ≤ℤ w → w ≤ℤ last → Contains xs w) → StandFrom xs i v last
stands xs i v last rise at all w from to =
    let k = natural_is (w -ℤ v) (omega (arith, ints, from)) in
    let value : v +ℤ pos (to_natural (w -ℤ v)) ≡ w = omega (arith, ints, k) in
    stand_at xs i v (to_natural (w -ℤ v)) rise at (λ u f t. all u f (omega (arith, ints, t, value, to))) ∙ ap (λ z. Some z) value

pub stand_next : (xs : List ℤ) (i : ℕ) (v last : ℤ) → StandFrom xs i v last → StandFrom xs (i + 1) (v +ℤ pos 1) last
stand_next xs i v last all w from to =
    let a = natural_is (w -ℤ v) (omega (arith, ints, from)) in let b = natural_is (w -ℤ (v +ℤ pos 1)) (omega (arith, ints, from)) in
    let place : (i + 1) + to_natural (w -ℤ (v +ℤ pos 1)) ≡ i + to_natural (w -ℤ v) = omega (arith, ints, a, b) in
    ap (slice_get xs) place ∙ all w (omega (arith, ints, from)) to

pub stand_first : (xs : List ℤ) (i : ℕ) (v last : ℤ) → StandFrom xs i v last → v ≤ℤ last → slice_get xs i ≡ Some v
stand_first xs i v last all le =
    let a = natural_is (v -ℤ v) (omega (arith, ints)) in let place : i ≡ i + to_natural (v -ℤ v) = omega (arith, ints, a) in
    ap (slice_get xs) place ∙ all v (omega (arith, ints)) le

-- the least number stands first
pub first_at : (xs : List ℤ) (l : ℤ) → IsRising xs → Contains xs l → ((v : ℤ) → Contains xs v → l ≤ℤ v) → slice_get xs 0 ≡ Some l
unfolding IsRising
first_at [] l rise has least = absurd (nothing_in l has)
first_at (x ∷ xs) l rise has least = elim ((contains_cons x xs l).0 has) [
  | inl e ↦ ap (λ z. Some z) e
  | inr there ↦ let lt = each_contains (λ y. x <ℤ y) xs l rise.0 there in let le = least x ((contains_cons x xs x).1 (inl refl)) in
      absurd (omega (arith, ints, lt, le))
]

-- the greatest number stands last
pub last_at : (xs : List ℤ) (h : ℤ) → IsRising xs → Contains xs h → ((v : ℤ) → Contains xs v → v ≤ℤ h) → slice_get xs (length xs - 1) ≡ Some h
unfolding IsRising
last_at [] h rise has greatest = absurd (nothing_in h has)
last_at (x ∷ []) h rise has greatest = elim ((contains_cons x [] h).0 has) [ inl e ↦ ap (λ z. Some z) e | inr there ↦ absurd (nothing_in h there) ]
last_at (x ∷ y ∷ ys) h rise has greatest = elim ((contains_cons x (y ∷ ys) h).0 has) [
  | inl e ↦ let lt = rise.0.0 in let le = greatest y ((contains_cons x (y ∷ ys) y).1 (inr ((contains_cons y ys y).1 (inl refl)))) in
      absurd (omega (arith, ints, e, lt, le))
  | inr there ↦ let place : length (x ∷ y ∷ ys) - 1 ≡ suc (length (y ∷ ys) - 1) = omega arith in
      ap (slice_get (x ∷ y ∷ ys)) place ∙
      last_at (y ∷ ys) h rise.1 there (λ v here. greatest v ((contains_cons x (y ∷ ys) v).1 (inr here)))
]

pub last_of : (xs : List ℤ) (i size : ℕ) (h : ℤ) → size ≡ length xs → i + 1 ≡ size → slice_get xs (length xs - 1) ≡ Some h → slice_get xs i ≡ Some h
last_of xs i size h e one at = let place : i ≡ length xs - 1 = omega (arith, e, one) in ap (slice_get xs) place ∙ at

-- a set that is one range
rising_between : (low high : ℤ) → IsRising (values_between low high)
unfolding values_between IsRising
rising_between low high =
    let n = to_natural ((high +ℤ pos 1) -ℤ low) in subst IsRising (append-nil _) (rising_run low n [] tt tt)

pub piece_is : (rs : List Interval) (p : Interval) → RangesFrom bottom rs → IsPiece (values_of rs) p → length rs ≡ 1 →
    values_in (values_of rs) p ≡ values_between p.low p.high
unfolding InSome
piece_is [] p apart is one = absurd (omega (arith, one))
piece_is (r ∷ s ∷ rs) p apart is one = absurd (omega (arith, one))
piece_is (r ∷ []) p apart is one =
    let low = inside p.low (value_in_some bottom (r ∷ []) p.low apart is.1) in
    let high = inside p.high (value_in_some bottom (r ∷ []) p.high apart is.2) in
    same_set (values_in (values_of (r ∷ [])) p) (values_between p.low p.high) (base_rises (r ∷ []) p apart) (rising_between p.low p.high) (λ v. (
      λ has. let h = (contains_in (values_of (r ∷ [])) p v).0 has in between_has p.low p.high v h.1 h.2,
      λ has. let h = in_between p.low p.high v (past p.low p.high is.0) has in
          (contains_in (values_of (r ∷ [])) p v).1 (some_has_value (r ∷ []) v (inl (over r.low p.low v low.0 h.0, over v p.high r.high h.1 high.1)), h.0, h.1),
    ))
  where
    inside : (v : ℤ) → InSome (r ∷ []) v → (r.low ≤ℤ v) × (v ≤ℤ r.high)
    inside v h = elim h [ inl here ↦ here | inr there ↦ absurd there ]

    past : (a b : ℤ) → a ≤ℤ b → a ≤ℤ (b +ℤ pos 1)
    past a b le = omega (arith, ints, le)

    over : (a b c : ℤ) → a ≤ℤ b → b ≤ℤ c → a ≤ℤ c
    over a b c le le' = omega (arith, ints, le, le')

pub one_range : (rs : List Interval) (p : Interval) (ms : List Mark) (d : List ℤ) → numbers (values_in (values_of rs) p) ms ≡ d → IsMarked rs p ms →
    ms ≡ [] → length rs ≡ 1 → IsRange d p
one_range rs p ms d view is none one =
    let low = value_within rs p.low is.set.apart is.piece.1 in let high = value_within rs p.high is.set.apart is.piece.2 in record {
      same = sym (plain_is rs p ms d view is none) ∙ piece_is rs p is.set.apart is.piece one;
      from = low.0;
      ordered = is.piece.0;
      to = high.1;
    }

-- a piece of one number with no marks
pub single_range : (rs : List Interval) (p : Interval) (ms : List Mark) (d : List ℤ) → numbers (values_in (values_of rs) p) ms ≡ d → IsMarked rs p ms →
    ms ≡ [] → p.low ≡ p.high → IsRange d p
single_range rs p ms d view is none one =
    let low = value_within rs p.low is.set.apart is.piece.1 in let high = value_within rs p.high is.set.apart is.piece.2 in record {
      same = same_set d (values_between p.low p.high) (marked_domain rs p ms d view is).rising (rising_between p.low p.high) (λ v. (
        λ has. let h = plain_between rs p ms d view is none v has in between_has p.low p.high v h.0 h.1,
        λ has. let h = in_between p.low p.high v (past p.low p.high is.piece.0) has in
            subst (Contains d) (equal p.low p.high v one h.0 h.1) (plain_low rs p ms d view is none),
      ));
      from = low.0;
      ordered = is.piece.0;
      to = high.1;
    }
  where
    past : (a b : ℤ) → a ≤ℤ b → a ≤ℤ (b +ℤ pos 1)
    past a b le = omega (arith, ints, le)

    equal : (a b v : ℤ) → a ≡ b → a ≤ℤ v → v ≤ℤ b → a ≡ v
    equal a b v e le le' = omega (arith, ints, e, le, le')

pub range_contains : (d : List ℤ) (r : Interval) (v w : ℤ) (answer : Bool) → IsRange d r → w ≡ v → IsTrue answer ↔ ((r.low ≤ℤ w) × (w ≤ℤ r.high)) →
    IsTrue answer ↔ Contains d v
range_contains d r v w answer is e test = (
  λ yes. let h = subst (λ u. (r.low ≤ℤ u) × (u ≤ℤ r.high)) e (test.0 yes) in
      subst (λ l. Contains l v) (sym is.same) (between_has r.low r.high v h.0 h.1),
  λ has. test.1 (subst (λ u. (r.low ≤ℤ u) × (u ≤ℤ r.high)) (sym e)
      (in_between r.low r.high v (past r.low r.high is.ordered) (subst (λ l. Contains l v) is.same has))),
)
  where
    past : (a b : ℤ) → a ≤ℤ b → a ≤ℤ (b +ℤ pos 1)
    past a b le = omega (arith, ints, le)

pub range_place : (d : List ℤ) (r : Interval) (i : ℕ) → IsRange d r → i < length d → slice_get d i ≡ Some (r.low +ℤ pos i)
range_place d r i is below =
    let size = ap length is.same in let inside : i < length (values_between r.low r.high) = omega (arith, size, below) in
    ap (λ l. slice_get l i) is.same ∙ read_at (values_between r.low r.high) i (r.low +ℤ pos i) inside (at_between r.low r.high i is.ordered inside)

pub range_size : (d : List ℤ) (r : Interval) → IsRange d r → pos (length d) ≡ (r.high +ℤ pos 1) -ℤ r.low
range_size d r is = ap (λ l. pos (length l)) is.same ∙ length-between r.low r.high (past r.low r.high is.ordered)
  where
    past : (a b : ℤ) → a ≤ℤ b → a ≤ℤ (b +ℤ pos 1)
    past a b le = omega (arith, ints, le)

pub range_few : (d : List ℤ) (r : Interval) (i : ℕ) → IsRange d r → i < length d → pos i ≤ℤ (r.high -ℤ r.low)
range_few d r i is below = let size = range_size d r is in omega (arith, ints, size, below)

pub range_domain : (d : List ℤ) (r : Interval) → IsRange d r → IsDomain d
range_domain d r is = let size = range_size d r is in let o = is.ordered in subst IsDomain (sym is.same) (record {
  rising = rising_between r.low r.high;
  some = λ none. (let n = ap length (is.same ∙ none) in omega (arith, ints, n, size, o));
  within = each_from WithinLimits (values_between r.low r.high) (λ v has. inside v (in_between r.low r.high v (past r.low r.high o) has));
})
  where
    past : (a b : ℤ) → a ≤ℤ b → a ≤ℤ (b +ℤ pos 1)
    past a b le = omega (arith, ints, le)

    inside : (v : ℤ) → (r.low ≤ℤ v) × (v ≤ℤ r.high) → WithinLimits v
    inside v h = let from = is.from in let to = is.to in (omega (arith, ints, from, h.0), omega (arith, ints, to, h.1))

-- how far a range goes on from one of its numbers, in machine numbers
in_some_at : (rs : List Interval) (n : ℕ) (d : Interval) (w : ℤ) → n < length rs → (get_or rs n d).low ≤ℤ w → w ≤ℤ (get_or rs n d).high → InSome rs w
unfolding InSome
in_some_at [] n d w below from to = absurd (omega (arith, below))
in_some_at (r ∷ rs) zero d w below from to = inl (from, to)
in_some_at (r ∷ rs) (suc n) d w below from to = inr (in_some_at rs n d w (omega (arith, below)) from to)

pub range_reach : (t : ℤ) (rs : List Interval) (d : Interval) (n : ℕ) → RangesFrom bottom rs → n ≡ leading_count (λ r. int_lt r.high t) rs → n < length rs →
    SFits w64 t → int_le (m (get_or rs n d).low) (m t) ≡ true →
    (t ≤ℤ m (get_or rs n d).high) × ((w : ℤ) → t <ℤ w → w ≤ℤ m (get_or rs n d).high → Contains (values_of rs) w)
range_reach t rs d n a is below fits test =
    let low = ((has_is t rs d n a is).1 ((has_then t rs d n a is below fits).0 test)).1 in
    let high = (ends_are rs n d a below).1 in
    let stop = subst (λ n. int_lt (get_or rs n d).high t ≡ false) (sym is) (stops (λ r. int_lt r.high t) rs d (subst (λ n. n < length rs) is below)) in
    let reached = reach (get_or rs n d).high t stop in (
      omega (arith, ints, high, reached),
      λ w from to. some_has_value rs w (in_some_at rs n d w below (omega (arith, ints, low, from)) (omega (arith, ints, high, to))),
    )
  where
    reach : (x v : ℤ) → int_lt x v ≡ false → v ≤ℤ x
    reach x v e = grind (arith, ints)

under_min : (r a b : ℤ) → r ≡ int_min a b → (r ≤ℤ a) × (r ≤ℤ b)
under_min r a b e = (grind (arith, ints), grind (arith, ints))

-- how far the values after v go on without a gap, within a piece
pub piece_reach : (rs : List Interval) (p : Interval) (v last r : ℤ) → RangesFrom bottom rs → IsPiece (values_of rs) p → SFits w64 v → SFits w64 last →
    SFits w64 r → int_lt (m v) (m p.low) ≡ false → r ≡ int_min (m last) (m p.high) →
    ((w : ℤ) → m v <ℤ w → w ≤ℤ last → Contains (values_of rs) w) → (w : ℤ) → v <ℤ w → w ≤ℤ m r → Contains (values_in (values_of rs) p) w
piece_reach rs p v last r a is fits_v fits_last fits_r test e all w from to =
    let ends = ends_small rs p a is in let v_is = to_z-of_z w64 v fits_v in
    let last_is = to_z-of_z w64 last fits_last in let r_is = to_z-of_z w64 r fits_r in
    let low = not_lt (m v) (m p.low) v p.low v_is ends.0 test in
    let least = under_min r (m last) (m p.high) e in let high = ends.1 in let one = least.0 in let two = least.1 in
    (contains_in (values_of rs) p w).1 (
      all w (omega (arith, ints, v_is, from)) (omega (arith, ints, last_is, r_is, one, to)),
      omega (arith, ints, low, from),
      omega (arith, ints, high, r_is, two, to),
    )

-- no mark lies between, by the side that was looked at
pub free_behind : (self : List Mark) (n d d' : Node) (v r : ℤ) → Opened self n.before n.mark n.behind → d ≡ n → d' ≡ n → SFits w64 v → SFits w64 r →
    int_le (m d.mark.value) (m v) ≡ true → ((w : ℤ) → m v <ℤ w → w ≤ℤ r → mark_at w d'.behind ≡ None) →
    (w : ℤ) → v <ℤ w → w ≤ℤ m r → mark_at w self ≡ None
free_behind self n d d' v r o e e' fits_v fits_r test free w from to =
    let v_is = to_z-of_z w64 v fits_v in let r_is = to_z-of_z w64 r fits_r in
    let here = ap (λ d. m d.mark.value) e ∙ small_is n.mark.value o.from o.to in
    let le = le_is (m d.mark.value) (m v) n.mark.value v here v_is test in
    ap (mark_at w) o.is ∙ sym (mark_behind w bottom n.before n.mark n.behind o.rising (omega (arith, ints, le, from))) ∙
    ap (λ d. mark_at w d.behind) (sym e') ∙ free w (omega (arith, ints, v_is, from)) (omega (arith, ints, r_is, to))

pub free_before : (self : List Mark) (n d d' : Node) (v end s r : ℤ) → Opened self n.before n.mark n.behind → d ≡ n → d' ≡ n → SFits w64 v → SFits w64 s →
    SFits w64 r → s ≡ int_min (m end) (m (m d.mark.value -ℤ pos 1)) → r ≤ℤ m s → ((w : ℤ) → m v <ℤ w → w ≤ℤ r → mark_at w d'.before ≡ None) →
    (w : ℤ) → v <ℤ w → w ≤ℤ m r → mark_at w self ≡ None
free_before self n d d' v end s r o e e' fits_v fits_s fits_r sooner below free w from to =
    let v_is = to_z-of_z w64 v fits_v in let s_is = to_z-of_z w64 s fits_s in let r_is = to_z-of_z w64 r fits_r in
    let here = ap (λ d. m (m d.mark.value -ℤ pos 1)) e ∙ ap (λ x. m (x -ℤ pos 1)) (small_is n.mark.value o.from o.to) in
    let small = last_is n.mark.value o.from o.to in
    let two = (under_min s (m end) (m (m d.mark.value -ℤ pos 1)) sooner).1 in
    ap (mark_at w) o.is ∙ sym (mark_before w bottom n.before n.mark n.behind o.rising (omega (arith, ints, to, r_is, below, s_is, two, here, small))) ∙
    ap (λ d. mark_at w d.before) (sym e') ∙ free w (omega (arith, ints, v_is, from)) (omega (arith, ints, r_is, to))
  where
    last_is : (x : ℤ) → bottom ≤ℤ x → x ≤ℤ pos 1000000 → m (x -ℤ pos 1) ≡ x -ℤ pos 1
    last_is x from to = medium_is (x -ℤ pos 1) (omega (arith, ints, from)) (omega (arith, ints, to))

-- how far the numbers of a set that differs from a piece at marks go on
pub run_given : (rs items : List Interval) (p : Interval) (ms : List Mark) (d : List ℤ) (v end r : ℤ) → numbers (values_in (values_of rs) p) ms ≡ d →
    IsMarked rs p ms → items ≡ rs → SFits w64 v → SFits w64 end → SFits w64 r → Contains d v →
    ((w : ℤ) → m v <ℤ w → w ≤ℤ end → Contains (values_in (values_of items) p) w) → r ≤ℤ m end →
    ((w : ℤ) → m v <ℤ w → w ≤ℤ r → mark_at w ms ≡ None) → (w : ℤ) → v ≤ℤ w → w ≤ℤ m r → Contains d w
run_given rs items p ms d v end r view is same fits_v fits_end fits_r has base within free w from to =
    let v_is = to_z-of_z w64 v fits_v in let end_is = to_z-of_z w64 end fits_end in let r_is = to_z-of_z w64 r fits_r in
    by_lt_z v w (λ lt. later (omega (arith, ints, v_is, lt)) (omega (arith, ints, r_is, to)) (omega (arith, ints, end_is, r_is, within, to)))
    (λ le. subst (Contains d) (equal v w from le) has)
  where
    later : m v <ℤ w → w ≤ℤ r → w ≤ℤ end → Contains d w
    later lt le le' =
        (marked_has rs p ms d view is w).1 (subst (λ o. IsThere (values_in (values_of rs) p) o w) (sym (free w lt le))
        (subst (λ l. Contains (values_in (values_of l) p) w) same (base w lt le')))

    equal : (a b : ℤ) → a ≤ℤ b → b ≤ℤ a → a ≡ b
    equal a b le ge = omega (arith, ints, le, ge)

pub run_is : (d : List ℤ) (i : ℕ) (v last : ℤ) → IsDomain d → SFits w64 v → SFits w64 last → slice_get d i ≡ Some v → m v ≤ℤ last →
    ((w : ℤ) → m v ≤ℤ w → w ≤ℤ last → Contains d w) →
    (bottom ≤ℤ m v) × (m v ≤ℤ m last) × (m last ≤ℤ pos 1000000) × StandFrom d i (m v) (m last)
run_is d i v last domain fits_v fits_last at le all =
    let v_is = to_z-of_z w64 v fits_v in let last_is = to_z-of_z w64 last fits_last in
    let here = all last le (omega (arith, ints)) in let small = each_contains WithinLimits d last domain.within here in
    let first = each_contains WithinLimits d v domain.within (at_contains d i v at) in
    let top = small.1 in let low = first.0 in (
      omega (arith, ints, v_is, low),
      omega (arith, ints, last_is, le),
      omega (arith, ints, last_is, top),
      subst (λ x. StandFrom d i x (m last)) (sym v_is) (subst (StandFrom d i v) (sym last_is)
          (stands d i v last domain.rising at (λ w from to. all w (omega (arith, ints, v_is, from)) to))),
    )

-- one step along such numbers, in machine numbers
pub none_next : (d : List ℤ) → AreNext d 0 (pos 0) (neg_ℤ (pos 1))
none_next d = record {
  from = omega (arith, ints);
  ordered = omega (arith, ints);
  to = omega (arith, ints);
  stand = λ w from to. absurd (omega (arith, ints, from, to));
}

pub more_next : (d : List ℤ) (i : ℕ) (next last : ℤ) → AreNext d i next last → int_lt (m last) (m next) ≡ false → next ≤ℤ last
more_next d i next last are test =
    let from = are.from in let ordered = are.ordered in let to = are.to in
    not_lt (m last) (m next) last next (medium_is last (omega (arith, ints, from, ordered)) (omega (arith, ints, to)))
    (medium_is next (omega (arith, ints, from)) (omega (arith, ints, ordered, to))) test

pub first_next : (d : List ℤ) (i : ℕ) (next last : ℤ) → AreNext d i next last → next ≤ℤ last → (i < length d) × (drop i d ≡ m next ∷ drop (i + 1) d)
first_next d i next last are le =
    let from = are.from in let to = are.to in
    let at = stand_first d i next last are.stand le in let one : suc i ≡ i + 1 = omega arith in (
      slice_get_within d i next at,
      drop-cons d i next (slice_get_within d i next at) ∙ ap (λ n. get_or d i next ∷ drop n d) one ∙
          ap (λ w. w ∷ drop (i + 1) d) (get_or_from_slice_get d i next next at ∙ sym (small_is next from (omega (arith, ints, le, to)))),
    )

pub step_next : (d : List ℤ) (i : ℕ) (next last : ℤ) → AreNext d i next last → next ≤ℤ last → AreNext d (i + 1) (m (m next +ℤ pos 1)) last
step_next d i next last are le =
    let from = are.from in let to = are.to in
    let is = ap (λ x. m (x +ℤ pos 1)) (small_is next from (omega (arith, ints, le, to))) ∙
    medium_is (next +ℤ pos 1) (omega (arith, ints, from)) (omega (arith, ints, le, to)) in
    subst (λ x. AreNext d (i + 1) x last) (sym is) (record {
      from = omega (arith, ints, from);
      ordered = omega (arith, ints, le);
      to = to;
      stand = stand_next d i next last are.stand;
    })

pub run_next : (d : List ℤ) (i : ℕ) (low high : ℤ) → bottom ≤ℤ low → low ≤ℤ high → high ≤ℤ pos 1000000 → StandFrom d i low high → AreNext d i low high
run_next d i low high from le to all = record { from = from; ordered = omega (arith, ints, le); to = to; stand = all }

pub went_on : (old new : List ℤ) (v : ℤ) → old ≡ v ∷ new → length new < length old
went_on old new v e = omega (arith, ap length e)

-- the least number of a set that has no mark up to the low end of its piece
pub record IsLeast (d : List ℤ) (l : ℤ) : Type 0 where
  pub value : l ≡ least_of d
  pub there : Contains d l
  pub first : slice_get d 0 ≡ Some l
  pub least : (v : ℤ) → Contains d v → l ≤ℤ v

-- a number where no mark is
unmarked : (rs : List Interval) (p : Interval) (ms : List Mark) (d : List ℤ) → numbers (values_in (values_of rs) p) ms ≡ d → IsMarked rs p ms → (v : ℤ) →
    mark_at v ms ≡ None → Contains d v ↔ Contains (values_in (values_of rs) p) v
unmarked rs p ms d view is v none = subst (λ o. Contains d v ↔ IsThere (values_in (values_of rs) p) o v) none (marked_has rs p ms d view is v)

pub plain_least : (rs : List Interval) (p : Interval) (ms : List Mark) (d : List ℤ) → numbers (values_in (values_of rs) p) ms ≡ d → IsMarked rs p ms →
    (a r : ℤ) → a <ℤ bottom → p.low ≤ℤ r → ((w : ℤ) → a <ℤ w → w ≤ℤ r → mark_at w ms ≡ None) → IsLeast d (m p.low)
plain_least rs p ms d view is a r below reach free =
    let domain = marked_domain rs p ms d view is in
    let first = first_at d p.low domain.rising there least in
    subst (IsLeast d) (sym (ends_small rs p is.set.apart is.piece).0) (record {
      value = sym (get_or_from_slice_get d 0 p.low (pos 0) first);
      there = there;
      first = first;
      least = least;
    })
  where
    none : (v : ℤ) → bottom ≤ℤ v → v ≤ℤ p.low → mark_at v ms ≡ None
    none v from to = free v (omega (arith, ints, below, from)) (omega (arith, ints, to, reach))

    there : Contains d p.low
    there = (unmarked rs p ms d view is p.low (none p.low (value_within rs p.low is.set.apart is.piece.1).0 (omega (arith, ints)))).1
        (low_in (values_of rs) p is.piece)

    least : (v : ℤ) → Contains d v → p.low ≤ℤ v
    least v has =
        let within = each_contains WithinLimits d v (marked_domain rs p ms d view is).within has in
        by_lt_z v p.low (λ lt. ((contains_in (values_of rs) p v).0
        ((unmarked rs p ms d view is v (none v within.0 (omega (arith, ints, lt)))).0 has)).1) (λ le. le)

-- the greatest number of a set that has no mark from the high end of its piece on
pub plain_greatest : (rs : List Interval) (p : Interval) (ms : List Mark) (d : List ℤ) → numbers (values_in (values_of rs) p) ms ≡ d → IsMarked rs p ms →
    (a r : ℤ) → a <ℤ p.high → pos 1000000 ≤ℤ r → ((w : ℤ) → a <ℤ w → w ≤ℤ r → mark_at w ms ≡ None) →
    Contains d p.high × ((v : ℤ) → Contains d v → v ≤ℤ p.high)
plain_greatest rs p ms d view is a r below reach free = (there, greatest)
  where
    none : (v : ℤ) → p.high ≤ℤ v → v ≤ℤ pos 1000000 → mark_at v ms ≡ None
    none v from to = free v (omega (arith, ints, below, from)) (omega (arith, ints, to, reach))

    there : Contains d p.high
    there = (unmarked rs p ms d view is p.high (none p.high (omega (arith, ints)) (value_within rs p.high is.set.apart is.piece.2).1)).1
        (high_in (values_of rs) p is.piece)

    greatest : (v : ℤ) → Contains d v → v ≤ℤ p.high
    greatest v has =
        let within = each_contains WithinLimits d v (marked_domain rs p ms d view is).within has in
        by_lt_z p.high v (λ lt. ((contains_in (values_of rs) p v).0
        ((unmarked rs p ms d view is v (none v (omega (arith, ints, lt)) within.1)).0 has)).2) (λ le. le)

-- the least value of a set, from what the code read in machine numbers
pub least_given : (rs : List Interval) (p : Interval) (ms : List Mark) (d : List ℤ) → numbers (values_in (values_of rs) p) ms ≡ d → IsMarked rs p ms →
    (r : ℤ) → SFits w64 r → m r ≡ m p.low → ((w : ℤ) → neg_ℤ (pos 1000001) <ℤ w → w ≤ℤ r → mark_at w ms ≡ None) → IsLeast d (m p.low)
least_given rs p ms d view is r fits e free =
    let low = (ends_small rs p is.set.apart is.piece).0 in let r_is = to_z-of_z w64 r fits in
    plain_least rs p ms d view is (neg_ℤ (pos 1000001)) r (omega (arith, ints)) (omega (arith, ints, e, low, r_is)) free

pub high_small : (rs : List Interval) (p : Interval) (ms : List Mark) → IsMarked rs p ms →
    (m p.high ≡ p.high) × (m (m p.high -ℤ pos 1) ≡ p.high -ℤ pos 1) × (bottom ≤ℤ p.high) × (p.high ≤ℤ pos 1000000)
high_small rs p ms is =
    let within = value_within rs p.high is.set.apart is.piece.2 in let high = (ends_small rs p is.set.apart is.piece).1 in
    let from = within.0 in let to = within.1 in
    (high, ap (λ x. m (x -ℤ pos 1)) high ∙ medium_is (p.high -ℤ pos 1) (omega (arith, ints, from)) (omega (arith, ints, to)), from, to)

pub greatest_given : (rs : List Interval) (p : Interval) (ms : List Mark) (d : List ℤ) → numbers (values_in (values_of rs) p) ms ≡ d → IsMarked rs p ms →
    (r : ℤ) → SFits w64 r → m r ≡ pos 1000000 → ((w : ℤ) → m (m p.high -ℤ pos 1) <ℤ w → w ≤ℤ r → mark_at w ms ≡ None) →
    Contains d (m p.high) × ((v : ℤ) → Contains d v → v ≤ℤ m p.high)
greatest_given rs p ms d view is r fits e free =
    let small = high_small rs p ms is in let below = small.1 in let r_is = to_z-of_z w64 r fits in
    subst (λ h. Contains d h × ((v : ℤ) → Contains d v → v ≤ℤ h)) (sym small.0)
    (plain_greatest rs p ms d view is (m (m p.high -ℤ pos 1)) r (omega (arith, ints, below)) (omega (arith, ints, e, r_is)) free)
