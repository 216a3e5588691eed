-- What is read of a set that differs from a piece of ranges at marks.
use Rattle.std.proofs.Common.{◌≡◌, ℕ, zero, suc, ◌-◌, ◌<◌, ◌≤◌, ℤ, pos, neg_ℤ, ◌+ℤ◌, ◌≤ℤ◌, ◌<ℤ◌, ◌↔◌, inl, inr, Bool, true, false, not, ◌&&◌, IsTrue}
use Rattle.std.proofs.Common.{None, Some, List, [], ◌∷◌, length, refl, sym, ap, ◌∙◌, subst, arith}
use Rattle.std.proofs.lemmas.Int.{ints}
use Rattle.std.proofs.lemmas.Bool.{both_ways}
use Rattle.std.specs.Prelude.{int_lt, slice_get, Contains}
use Rattle.std.specs.List.{AllByRecursion}
use Rattle.std.specs.Ordering.{int_eq}
use Rattle.std.specs.Bool.{Decides}
use Rattle.std.specs.Cmp.{signed_Decides}
use Rattle.std.specs.Cmp.Lexicographic.{pointwise, pointwise_decides}
use Rattle.std.proofs.lemmas.Bool.Decides.{Decides-like, Decides-and}
use Rattle.ts_domain.specs.declared.interval.Interval.{Interval}
use Rattle.ts_domain.specs.declared.marks.Mark.{Mark}
use Rattle.ts_domain.specs.Marks.{gain, mark_at, flip_mark, numbers, put_back}
use Rattle.ts_domain.specs.Pieces.{is_in, values_in, IsMarked}
use Rattle.ts_domain.specs.Kept.{values_above, values_without}
use Rattle.ts_domain.specs.Values.{IsRising, IsDomain, WithinLimits, values_of, RangesFrom}
use Rattle.ts_domain.proofs.Sets.{contains_cons, nothing_in, each_contains, each_filter, rising_filter, pass_all, lt_true}
use Rattle.ts_domain.proofs.Ranges.{values_rise, values_within, few_values}
use Rattle.ts_domain.proofs.PieceLaws.{contains_in, low_in, high_in}
use Rattle.ts_domain.proofs.MarkLaws.{mark_map, all_from, small_gain}
use Rattle.ts_domain.proofs.MarkSets.{IsThere, contains_numbers, numbers_rise}
use Rattle.ts_domain.proofs.MarkPlaces.{fewer, length-numbers}
use Rattle.ts_domain.proofs.MarkFlips.{Flips, flips, flip_rises, flip_told, flipped_away, flipped_back, flipped_some, numbers_domain}

abbrev bottom : ℤ
bottom = neg_ℤ (pos 1000000)

-- the numbers of the ranges in the piece
pub base_rises : (rs : List Interval) (p : Interval) → RangesFrom bottom rs → IsRising (values_in (values_of rs) p)
unfolding values_in
base_rises rs p apart = rising_filter (is_in p) (values_of rs) (values_rise bottom rs apart)

pub base_within : (rs : List Interval) (p : Interval) → RangesFrom bottom rs → AllByRecursion WithinLimits (values_in (values_of rs) p)
unfolding values_in
base_within rs p apart = each_filter WithinLimits (is_in p) (values_of rs) (values_within bottom rs apart)

pub base_few : (rs : List Interval) (p : Interval) → RangesFrom bottom rs → length (values_in (values_of rs) p) ≤ 2000003
unfolding values_in
base_few rs p apart = let few = few_values bottom rs apart (omega (arith, ints)) in omega (arith, ints, few, fewer (is_in p) (values_of rs))

-- above a number that is below all of them
pub all_above : (t : ℤ) (rs : List Interval) (p : Interval) → RangesFrom bottom rs → t <ℤ bottom →
    values_above t (values_in (values_of rs) p) ≡ values_in (values_of rs) p
all_above t rs p apart low = pass_all (λ v. int_lt t v) (values_in (values_of rs) p)
    (λ v has. lt_true t v (over v (each_contains WithinLimits (values_in (values_of rs) p) v (base_within rs p apart) has).0))
  where
    over : (v : ℤ) → bottom ≤ℤ v → t <ℤ v
    over v le = omega (arith, ints, low, le)

-- one number alone, by the ends
pub single_by_ends : (d : List ℤ) (l h : ℤ) (b : Bool) → IsRising d → Contains d l → Contains d h → ((v : ℤ) → Contains d v → (l ≤ℤ v) × (v ≤ℤ h)) →
    (IsTrue b ↔ (l ≡ h)) → IsTrue b ↔ (length d ≡ 1)
unfolding IsRising
single_by_ends [] l h b rise low high between test = absurd (nothing_in l low)
single_by_ends (x ∷ []) l h b rise low high between test =
    let a = only x l low in let c = only x h high in (λ yes. refl, λ one. test.1 (sym a ∙ c))
  where
    only : (x v : ℤ) → Contains (x ∷ []) v → x ≡ v
    only x v has = elim ((contains_cons x [] v).0 has) [ inl e ↦ e | inr there ↦ absurd (nothing_in v there) ]
single_by_ends (x ∷ y ∷ ys) l h b rise low high between test = (
  λ yes. absurd (apart (between x ((contains_cons x (y ∷ ys) x).1 (inl refl)))
      (between y ((contains_cons x (y ∷ ys) y).1 (inr ((contains_cons y ys y).1 (inl refl)))))
      rise.0.0 (test.0 yes)),
  λ one. absurd (omega (arith, one)),
)
  where
    apart : (l ≤ℤ x) × (x ≤ℤ h) → (l ≤ℤ y) × (y ≤ℤ h) → x <ℤ y → l ≡ h → ⊥
    apart a c lt e = omega (arith, ints, a.0, a.1, c.0, c.1, lt, e)

module _ (rs : List Interval) (p : Interval) (ms : List Mark) (d : List ℤ) (view : numbers (values_in (values_of rs) p) ms ≡ d) (is : IsMarked rs p ms) where
  pub marked_domain : IsDomain d
  marked_domain = subst IsDomain view
      (numbers_domain (values_in (values_of rs) p) ms (base_rises rs p is.set.apart) (base_within rs p is.set.apart) is.rising is.some)

  pub marked_has : (v : ℤ) → Contains d v ↔ IsThere (values_in (values_of rs) p) (mark_at v ms) v
  marked_has v = subst (λ l. Contains l v ↔ IsThere (values_in (values_of rs) p) (mark_at v ms) v) view
      (contains_numbers bottom (values_in (values_of rs) p) ms v is.rising)

  -- where a mark is, and where none is
  pub has_marked : (v : ℤ) (gone answer : Bool) → Some gone ≡ mark_at v ms → answer ≡ not gone → IsTrue answer ↔ Contains d v
  has_marked v gone answer at e = by_test gone refl
    where
      there : IsThere (values_in (values_of rs) p) (Some gone) v ↔ Contains d v
      there = subst (λ o. IsThere (values_in (values_of rs) p) o v ↔ Contains d v) (sym at) ((marked_has v).1, (marked_has v).0)

      by_test : (b : Bool) → gone ≡ b → IsTrue answer ↔ Contains d v
      by_test true g = (λ yes. absurd (both_ways answer (e ∙ ap not g) yes), λ has. absurd (both_ways gone (there.1 has) g))
      by_test false g = (λ yes. there.0 g, λ has. e ∙ ap not g)

  pub has_plain : (v : ℤ) (answer : Bool) → None ≡ mark_at v ms → IsTrue answer ↔ Contains (values_in (values_of rs) p) v → IsTrue answer ↔ Contains d v
  has_plain v answer at e =
      let there : IsThere (values_in (values_of rs) p) None v ↔ Contains d v =
      subst (λ o. IsThere (values_in (values_of rs) p) o v ↔ Contains d v) (sym at) ((marked_has v).1, (marked_has v).0) in
      (λ yes. there.0 (e.0 yes), λ has. e.1 (there.1 has))

  -- how many they are
  pub marked_size : pos (length d) ≡ pos (length (values_in (values_of rs) p)) +ℤ gain ms
  marked_size = subst (λ l. pos (length l) ≡ pos (length (values_in (values_of rs) p)) +ℤ gain ms) view
      (length-numbers bottom (values_in (values_of rs) p) ms (base_rises rs p is.set.apart) is.rising is.told)

  pub size_fits : (neg_ℤ (pos (length (values_in (values_of rs) p))) ≤ℤ gain ms) × (gain ms ≤ℤ pos 4000000)
  size_fits = let small = small_gain bottom ms (omega (arith, ints)) is.rising in let size = marked_size in
      (omega (arith, ints, size), omega (arith, ints, small.to))

  pub plain_is : ms ≡ [] → values_in (values_of rs) p ≡ d
  unfolding numbers
  plain_is none = sym (ap (numbers (values_in (values_of rs) p)) none) ∙ view

  pub marks_over : (t : ℤ) → t <ℤ bottom → AllByRecursion (λ m. t <ℤ m.value) ms
  marks_over t low = mark_map (λ m. bottom ≤ℤ m.value) (λ m. t <ℤ m.value) (λ m le. over m.value le) ms (all_from bottom ms is.rising)
    where
      over : (v : ℤ) → bottom ≤ℤ v → t <ℤ v
      over v le = omega (arith, ints, low, le)

  pub above_is : (t : ℤ) → t <ℤ bottom → numbers (values_above t (values_in (values_of rs) p)) ms ≡ d
  above_is t low = ap (λ l. numbers l ms) (all_above t rs p is.set.apart low) ∙ view

  -- whether a value is in the set, from the ranges that the code read in machine numbers
  pub has_given : (items : List Interval) (v w : ℤ) (answer : Bool) → items ≡ rs → w ≡ v → None ≡ mark_at w ms →
      IsTrue answer ↔ Contains (values_in (values_of items) p) w → IsTrue answer ↔ Contains d v
  has_given items v w answer same e at is = subst (λ u. IsTrue answer ↔ Contains d u) e
      (has_plain w answer at (subst (λ l. IsTrue answer ↔ Contains (values_in (values_of l) p) w) same is))

  pub count_small : (items : List Interval) (n : ℕ) → items ≡ rs → n ≡ length (values_in (values_of items) p) → n ≤ 4000000
  count_small items n same e =
      let few = base_few rs p is.set.apart in let size = e ∙ ap (λ l. length (values_in (values_of l) p)) same in omega (arith, few, size)

  pub gain_from : (items : List Interval) (n : ℕ) (g h : ℤ) → items ≡ rs → n ≡ length (values_in (values_of items) p) → g ≡ gain ms → h ≡ g →
      neg_ℤ (pos n) ≤ℤ h
  gain_from items n g h same e made machine =
      let fits = size_fits in let size = e ∙ ap (λ l. length (values_in (values_of l) p)) same in omega (arith, ints, fits.0, size, made, machine)

  pub gain_to : (g h : ℤ) → g ≡ gain ms → h ≡ g → h ≤ℤ pos 4000000
  gain_to g h made machine = let fits = size_fits in omega (arith, ints, fits.1, made, machine)

  pub size_is : (items : List Interval) (n : ℕ) (g h : ℤ) (r : ℕ) → items ≡ rs → n ≡ length (values_in (values_of items) p) → g ≡ gain ms → h ≡ g →
      pos r ≡ pos n +ℤ h → r ≡ length d
  size_is items n g h r same e made machine total =
      let all = marked_size in let size = e ∙ ap (λ l. length (values_in (values_of l) p)) same in omega (arith, ints, all, size, made, machine, total)

  pub place_below : (items : List Interval) (t : ℤ) (i : ℕ) → items ≡ rs → t <ℤ bottom → i < length d →
      i < length (numbers (values_above t (values_in (values_of items) p)) ms)
  place_below items t i same low below = let all = ap length (ap (λ l. numbers (values_above t (values_in (values_of l) p)) ms) same ∙ above_is t low) in
      omega (arith, all, below)

  pub place_is : (items : List Interval) (t : ℤ) (i : ℕ) (r : ℤ) → items ≡ rs → t <ℤ bottom →
      slice_get (numbers (values_above t (values_in (values_of items) p)) ms) i ≡ Some r → slice_get d i ≡ Some r
  place_is items t i r same low at =
      sym (ap (λ l. slice_get l i) (ap (λ l. numbers (values_above t (values_in (values_of l) p)) ms) same ∙ above_is t low)) ∙ at

  -- the ends of a piece with no marks
  pub plain_low : ms ≡ [] → Contains d p.low
  plain_low none = subst (λ l. Contains l p.low) (plain_is none) (low_in (values_of rs) p is.piece)

  pub plain_high : ms ≡ [] → Contains d p.high
  plain_high none = subst (λ l. Contains l p.high) (plain_is none) (high_in (values_of rs) p is.piece)

  pub plain_between : ms ≡ [] → (v : ℤ) → Contains d v → (p.low ≤ℤ v) × (v ≤ℤ p.high)
  plain_between none v has =
      let h = (contains_in (values_of rs) p v).0 (subst (λ l. Contains l v) (sym (plain_is none)) has) in (h.1, h.2)

  -- a number that goes or comes, with its mark
  pub flipped_marked : (v : ℤ) (gone : Bool) (made : List Mark) → (IsTrue gone ↔ Contains (values_in (values_of rs) p) v) → bottom ≤ℤ v → v ≤ℤ pos 1000000 →
      (Contains d v → values_without v d ≡ [] → ⊥) → made ≡ flip_mark (record { value = v; gone = gone }) ms →
      IsMarked rs p made × (Contains d v → numbers (values_in (values_of rs) p) made ≡ values_without v d) ×
      ((Contains d v → ⊥) → numbers (values_in (values_of rs) p) made ≡ put_back v d)
  flipped_marked v gone made told from to stays e =
      let all = values_in (values_of rs) p in let m : Mark = record { value = v; gone = gone } in
      let rise = base_rises rs p is.set.apart in let rises = flip_rises bottom m ms is.rising from to in
      let old_rise = marked_domain.rising in let new_rise = numbers_rise bottom all (flip_mark m ms) rise rises in
      let f : Flips d (numbers all (flip_mark m ms)) v =
      subst (λ l. Flips l (numbers all (flip_mark m ms)) v) view (flips all m ms is.rising from to is.told told) in
      subst (λ l. IsMarked rs p l × (Contains d v → numbers all l ≡ values_without v d) × ((Contains d v → ⊥) → numbers all l ≡ put_back v d)) (sym e) (
        record {
          set = is.set;
          piece = is.piece;
          rising = rises;
          told = flip_told all m ms is.told told;
          some = flipped_some d (numbers all (flip_mark m ms)) v old_rise new_rise f stays;
        },
        λ has. flipped_away d (numbers all (flip_mark m ms)) v old_rise new_rise f has,
        λ none. flipped_back d (numbers all (flip_mark m ms)) v old_rise new_rise f none,
      )

  pub flipped_given : (items : List Interval) (v w : ℤ) (gone : Bool) (old made : List Mark) → items ≡ rs → w ≡ v →
      IsTrue gone ↔ Contains (values_in (values_of items) p) w → WithinLimits v → (Contains d v → values_without v d ≡ [] → ⊥) → old ≡ ms →
      made ≡ flip_mark (record { value = w; gone = gone }) old →
      IsMarked rs p made × (Contains d v → numbers (values_in (values_of rs) p) made ≡ values_without v d) ×
      ((Contains d v → ⊥) → numbers (values_in (values_of rs) p) made ≡ put_back v d)
  flipped_given items v w gone old made same e told within stays olds is_made =
      flipped_marked v gone made (subst (λ u. IsTrue gone ↔ Contains (values_in (values_of rs) p) u) e
      (subst (λ l. IsTrue gone ↔ Contains (values_in (values_of l) p) w) same told)) within.0 within.1 stays
      (is_made ∙ ap (λ u. flip_mark (record { value = u; gone = gone }) old) e ∙ ap (flip_mark (record { value = v; gone = gone })) olds)

  -- one number alone, with no marks
  pub plain_single : (b : Bool) → ms ≡ [] → IsTrue b ↔ (p.low ≡ p.high) → IsTrue b ↔ (length d ≡ 1)
  plain_single b none test =
      single_by_ends d p.low p.high b marked_domain.rising (plain_low none) (plain_high none) (plain_between none) test

-- the ends, by the places
pub first_least : (d : List ℤ) (l v : ℤ) → IsRising d → slice_get d 0 ≡ Some l → Contains d v → l ≤ℤ v
unfolding IsRising
first_least [] l v rise at has = cc
first_least (x ∷ xs) l v rise at has = let e : x ≡ l = cc in elim ((contains_cons x xs v).0 has) [
  | inl s ↦ omega (arith, ints, e, s)
  | inr there ↦ let lt = each_contains (λ y. x <ℤ y) xs v rise.0 there in omega (arith, ints, e, lt)
]

pub at_contains : (xs : List ℤ) (n : ℕ) (h : ℤ) → slice_get xs n ≡ Some h → Contains xs h
at_contains [] n h at = cc
at_contains (x ∷ xs) zero h at = (contains_cons x xs h).1 (inl cc)
at_contains (x ∷ xs) (suc n) h at = (contains_cons x xs h).1 (inr (at_contains xs n h at))

pub last_greatest : (d : List ℤ) (n : ℕ) (h v : ℤ) → IsRising d → suc n ≡ length d → slice_get d n ≡ Some h → Contains d v → v ≤ℤ h
unfolding IsRising
last_greatest [] n h v rise size at has = absurd (omega (arith, size))
last_greatest (x ∷ []) zero h v rise size at has = let e : x ≡ h = cc in elim ((contains_cons x [] v).0 has)
    [ inl s ↦ omega (arith, ints, e, s) | inr there ↦ absurd (nothing_in v there) ]
last_greatest (x ∷ y ∷ ys) zero h v rise size at has = absurd (omega (arith, size))
last_greatest (x ∷ xs) (suc n) h v rise size at has = elim ((contains_cons x xs v).0 has) [
  | inl s ↦ let there = at_contains xs n h at in let lt = each_contains (λ y. x <ℤ y) xs h rise.0 there in omega (arith, ints, s, lt)
  | inr there ↦ last_greatest xs n h v rise.1 (omega (arith, size)) at there
]

pub last_place : (d : List ℤ) (n : ℕ) → n ≡ length d → (d ≡ [] → ⊥) → suc (n - 1) ≡ length d
last_place [] n e some = absurd (some refl)
last_place (x ∷ xs) n e some = omega (arith, e)

-- ranges, pieces and marks that compare as equal
same_ends : (a b : Interval) → a.low ≡ b.low → a.high ≡ b.high → a ≡ b
same_ends a b low high = subst (λ l. a ≡ record { low = l; high = b.high }) low (ap (λ h. record { low = a.low; high = h }) high)

pub interval_decides : (a b : Interval) → Decides (int_eq a.low b.low && int_eq a.high b.high) (a ≡ b)
interval_decides a b = Decides-like _ (λ h. same_ends a b h.0 h.1) (λ e. (ap (λ i. i.low) e, ap (λ i. i.high) e))
    (Decides-and _ _ (signed_Decides a.low b.low) (signed_Decides a.high b.high))

pub told_same : (r : Bool) (xs ys : List Interval) → r ≡ pointwise (λ a b. int_eq a.low b.low && int_eq a.high b.high) xs ys → IsTrue r → xs ≡ ys
told_same r xs ys e t = (pointwise_decides interval_decides xs ys).0 (sym e ∙ t)

pub same_numbers : (rs ss : List Interval) (p q : Interval) (ms ns : List Mark) (d e : List ℤ) → numbers (values_in (values_of rs) p) ms ≡ d →
    numbers (values_in (values_of ss) q) ns ≡ e → rs ≡ ss → p ≡ q → ms ≡ ns → d ≡ e
same_numbers rs ss p q ms ns d e one two ranges pieces marks =
    sym one ∙ ap (λ l. numbers (values_in (values_of l) p) ms) ranges ∙ ap (λ r. numbers (values_in (values_of ss) r) ms) pieces ∙
    ap (numbers (values_in (values_of ss) q)) marks ∙ two
