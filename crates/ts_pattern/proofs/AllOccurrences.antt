-- The list of all occurrences is the one list that stands in the relation.
use Rattle.std.specs.Prelude.{◌≡◌, ◌⊎◌, ℕ, zero, suc, ◌+◌, ◌==◌, ◌<◌, ◌≤◌, nat_le, Bool, true, false, cond, not, ◌&&◌, ◌||◌, List, [], ◌∷◌, ◌++◌, map, length, slice_range, refl}
use Rattle.std.specs.List.{filter, list_all, AllByRecursion}
use Rattle.std.proofs.Common.{sym, ◌∙◌, ap, subst, inl, inr, arith, ⊎_elim}
use Rattle.ts_base.specs.declared.letter.Letter.{Letter}
use Rattle.ts_base.specs.declared.range.Range.{Range}
use Rattle.ts_regex.specs.Shape.{Shape}
use Rattle.ts_regex.specs.Membership.{is_word}
use Rattle.ts_regex.proofs.Laws.{is_word_to, is_word_back}
use Rattle.ts_pattern.specs.Occurrences.{IsMatch, IsOccurrence}
use Rattle.ts_pattern.specs.EachOf.{OneOf}
use Rattle.ts_pattern.specs.OccurrenceList.{Place, RisingPlaces, IsPlace, AreOccurrences, e_range, AreRanges}
use Rattle.ts_pattern.specs.AllOccurrences.{places_from, places_after, match_places, is_not_wider, occurrence_places, occurrence_ranges}
use Rattle.ts_pattern.proofs.Elements.{each_map, each_and, each_filter, one_left, one_right, each_append}
use Rattle.ts_pattern.proofs.Places.{place_is, same_start_same, occurrences_unique}

same_number : (a b : ℕ) → a == b ≡ true → a ≡ b
same_number a b h = grind arith

other_number : (a b : ℕ) → a == b ≡ false → a ≡ b → ⊥
other_number a b h q = grind arith

-- what passes the filter passes the test
each_passes : {A : Type 0} (q : A → Bool) (es : List A) → AllByRecursion (λ x. q x ≡ true) (filter q es)
each_passes q [] = tt
each_passes q (e ∷ es) =
    elim (q e) as (λ b. q e ≡ b → AllByRecursion (λ x. q x ≡ true) (cond b (e ∷ filter q es) (filter q es))) [
      | true ↦ λ h. (h, each_passes q es)
      | false ↦ λ h. each_passes q es
    ] refl

-- a place that passes the test stays in the list
one_filter : (q : Place → Bool) (s e : ℕ) (xs : List Place) → q (record { start = s; end = e }) ≡ true → OneOf (IsPlace s e) xs →
    OneOf (IsPlace s e) (filter q xs)
one_filter q s e [] t h = h
one_filter q s e (x ∷ xs) t h =
    elim (q x) as (λ b. q x ≡ b → OneOf (IsPlace s e) (cond b (x ∷ filter q xs) (filter q xs))) [
      | true ↦ λ u. ⊎_elim (λ a. inl a) (λ a. inr (one_filter q s e xs t a)) h
      | false ↦ λ u. ⊎_elim
          (λ a. absurd (let same : x ≡ record { start = s; end = e } = place_is x (record { start = s; end = e }) a.0 a.1 in let v : q x ≡ true = ap q same
          ∙ t in let bad : true ≡ false = sym v ∙ u in cc))
          (λ a. one_filter q s e xs t a)
          h
    ] refl

-- by rising start, then by rising end
abbrev After : Place → Place → Type 0
After x y = (x.start < y.start) ⊎ ((x.start ≡ y.start) × (x.end < y.end))

abbrev Ordered : List Place → Type 0
Ordered [] = Unit {0}
Ordered (x ∷ xs) = AllByRecursion (After x) xs × Ordered xs

ordered_filter : (q : Place → Bool) (xs : List Place) → Ordered xs → Ordered (filter q xs)
ordered_filter q [] h = tt
ordered_filter q (x ∷ xs) h =
    elim (q x) as (λ b. Ordered (cond b (x ∷ filter q xs) (filter q xs))) [
      | true ↦ (each_filter (After x) q xs h.0, ordered_filter q xs h.1)
      | false ↦ ordered_filter q xs h.1
    ]

ordered_append : (xs ys : List Place) → Ordered xs → Ordered ys → AllByRecursion (λ x. AllByRecursion (After x) ys) xs → Ordered (xs ++ ys)
ordered_append [] ys h k a = k
ordered_append (x ∷ xs) ys h k a = (each_append (After x) xs ys h.0 a.0, ordered_append xs ys h.1 k a.1)

-- the places from one start
from_starts : (s e c : ℕ) → AllByRecursion (λ x. (x.start ≡ s) × (e ≤ x.end)) (places_from s e c)
from_starts s e zero = tt
from_starts s e (suc c) = (
  (refl, omega arith),
  each_map (λ x. (x.start ≡ s) × (e + 1 ≤ x.end)) (λ x. (x.start ≡ s) × (e ≤ x.end)) (λ x h. (h.0, let k = h.1 in omega arith))
      (places_from s (e + 1) c) (from_starts s (e + 1) c),
)

from_inside : (s e c n : ℕ) → s < e → e + c ≤ n + 1 → AllByRecursion (λ x. (x.start < x.end) × (x.end ≤ n)) (places_from s e c)
from_inside s e zero n p q = tt
from_inside s e (suc c) n p q = ((p, omega arith), from_inside s (e + 1) c n (omega arith) (omega arith))

from_ordered : (s e c : ℕ) → Ordered (places_from s e c)
from_ordered s e zero = tt
from_ordered s e (suc c) = (
  each_map (λ x. (x.start ≡ s) × (e + 1 ≤ x.end)) (After (record { start = s; end = e })) (λ x h. inr (sym h.0, let k = h.1 in omega arith))
      (places_from s (e + 1) c) (from_starts s (e + 1) c),
  from_ordered s (e + 1) c,
)

from_has : (s e c k : ℕ) → e ≤ k → k < e + c → OneOf (IsPlace s k) (places_from s e c)
from_has s e zero k p q = absurd (omega arith)
from_has s e (suc c) k p q =
    elim (k == e) as (λ b. k == e ≡ b → OneOf (IsPlace s k) (places_from s e (suc c))) [
      | true ↦ λ h. inl (refl, sym (same_number k e h))
      | false ↦ λ h. inr (from_has s (e + 1) c k (let d = other_number k e h in omega arith) (omega arith))
    ] refl

-- all places
after_starts : (s c : ℕ) → AllByRecursion (λ x. s ≤ x.start) (places_after s c)
after_starts s zero = tt
after_starts s (suc c) =
    each_append (λ x. s ≤ x.start) (places_from s (s + 1) (suc c)) (places_after (s + 1) c)
    (each_map (λ x. (x.start ≡ s) × (s + 1 ≤ x.end)) (λ x. s ≤ x.start) (λ x h. let k = h.0 in omega arith) (places_from s (s + 1) (suc c))
    (from_starts s (s + 1) (suc c)))
    (each_map (λ x. s + 1 ≤ x.start) (λ x. s ≤ x.start) (λ x h. omega arith) (places_after (s + 1) c) (after_starts (s + 1) c))

after_inside : (s c n : ℕ) → s + c ≤ n → AllByRecursion (λ x. (x.start < x.end) × (x.end ≤ n)) (places_after s c)
after_inside s zero n p = tt
after_inside s (suc c) n p =
    each_append (λ x. (x.start < x.end) × (x.end ≤ n)) (places_from s (s + 1) (suc c)) (places_after (s + 1) c)
    (from_inside s (s + 1) (suc c) n (omega arith) (omega arith))
    (after_inside (s + 1) c n (omega arith))

after_ordered : (s c : ℕ) → Ordered (places_after s c)
after_ordered s zero = tt
after_ordered s (suc c) =
    ordered_append (places_from s (s + 1) (suc c)) (places_after (s + 1) c) (from_ordered s (s + 1) (suc c)) (after_ordered (s + 1) c)
    (each_map (λ x. (x.start ≡ s) × (s + 1 ≤ x.end)) (λ x. AllByRecursion (After x) (places_after (s + 1) c))
    (λ x h. each_map (λ y. s + 1 ≤ y.start) (After x) (λ y k. inl (let z = h.0 in omega arith)) (places_after (s + 1) c) (after_starts (s + 1) c))
    (places_from s (s + 1) (suc c)) (from_starts s (s + 1) (suc c)))

after_has : (s c i k : ℕ) → s ≤ i → i < k → k ≤ s + c → OneOf (IsPlace i k) (places_after s c)
after_has s zero i k p q r = absurd (omega arith)
after_has s (suc c) i k p q r =
    elim (i == s) as (λ b. i == s ≡ b → OneOf (IsPlace i k) (places_after s (suc c))) [
      | true ↦ λ h. one_left (IsPlace i k) (places_from s (s + 1) (suc c)) (places_after (s + 1) c)
          (subst (λ j. OneOf (IsPlace j k) (places_from s (s + 1) (suc c))) (sym (same_number i s h))
          (from_has s (s + 1) (suc c) k (omega arith) (omega arith)))
      | false ↦ λ h. one_right (IsPlace i k) (places_from s (s + 1) (suc c)) (places_after (s + 1) c)
          (after_has (s + 1) c i k (let d = other_number i s h in omega arith) q (omega arith))
    ] refl

-- the matches
each_match : (p : Shape) (w : List Letter) → AllByRecursion (λ x. IsMatch p w x.start x.end) (match_places p w)
unfolding match_places
each_match p w =
    each_map (λ x. ((x.start < x.end) × (x.end ≤ length w)) × (is_word p (slice_range w x.start x.end) ≡ true)) (λ x. IsMatch p w x.start x.end)
    (λ x h. record { some = h.0.0; inside = h.0.1; word = is_word_to p (slice_range w x.start x.end) h.1 })
    (filter (λ x. is_word p (slice_range w x.start x.end)) (places_after 0 (length w)))
    (each_and (λ x. (x.start < x.end) × (x.end ≤ length w)) (λ x. is_word p (slice_range w x.start x.end) ≡ true)
    (filter (λ x. is_word p (slice_range w x.start x.end)) (places_after 0 (length w)))
    (each_filter (λ x. (x.start < x.end) × (x.end ≤ length w)) (λ x. is_word p (slice_range w x.start x.end)) (places_after 0 (length w))
    (after_inside 0 (length w) (length w) (omega arith)))
    (each_passes (λ x. is_word p (slice_range w x.start x.end)) (places_after 0 (length w))))

has_match : (p : Shape) (w : List Letter) (s e : ℕ) → IsMatch p w s e → OneOf (IsPlace s e) (match_places p w)
unfolding match_places
has_match p w s e m =
    let i = m.inside in
    one_filter (λ x. is_word p (slice_range w x.start x.end)) s e (places_after 0 (length w)) (is_word_back p (slice_range w s e) m.word)
    (after_has 0 (length w) s e (omega arith) m.some (omega arith))

-- the test of the widest
all_test : (q : Place → Bool) (xs : List Place) → AllByRecursion (λ x. q x ≡ true) xs → list_all q xs ≡ true
all_test q [] h = refl
all_test q (x ∷ xs) h = ap (λ b. b && list_all q xs) h.0 ∙ all_test q xs h.1

test_all : (q : Place → Bool) (xs : List Place) → list_all q xs ≡ true → AllByRecursion (λ x. q x ≡ true) xs
test_all q [] h = tt
test_all q (x ∷ xs) h = let k = split (q x) (list_all q xs) h in (k.0, test_all q xs k.1)
  where
    split : (a b : Bool) → a && b ≡ true → (a ≡ true) × (b ≡ true)
    split true b h = (refl, h)
    split false b h = cc

not_wider : (x y : Place) → is_not_wider x y ≡ true → y.start ≤ x.start → x.end ≤ y.end → (y.start ≡ x.start) × (y.end ≡ x.end)
not_wider x y h p q = numbers x.start x.end y.start y.end h p q
  where
    numbers : (a b c d : ℕ) → ((a == c) && (b == d)) || not (nat_le c a && nat_le b d) ≡ true → c ≤ a → b ≤ d → (c ≡ a) × (d ≡ b)
    numbers a b c d h p q = grind arith

is_widest : (x y : Place) → (y.start ≤ x.start → x.end ≤ y.end → (y.start ≡ x.start) × (y.end ≡ x.end)) → is_not_wider x y ≡ true
is_widest x y h = numbers x.start x.end y.start y.end h
  where
    numbers : (a b c d : ℕ) → (c ≤ a → b ≤ d → (c ≡ a) × (d ≡ b)) → ((a == c) && (b == d)) || not (nat_le c a && nat_le b d) ≡ true
    numbers a b c d h = grind arith

-- what holds of each place of a list, holds of a place that is in it
at_place : (P : Place → Type 0) (s e : ℕ) (xs : List Place) → AllByRecursion P xs → OneOf (IsPlace s e) xs → P (record { start = s; end = e })
at_place P s e [] h k = absurd k
at_place P s e (x ∷ xs) h k =
    ⊎_elim (λ a. subst P (place_is x (record { start = s; end = e }) a.0 a.1) h.0) (λ a. at_place P s e xs h.1 a) k

each_occurrence : (p : Shape) (w : List Letter) → AllByRecursion (λ x. IsOccurrence p w x.start x.end) (occurrence_places p w)
unfolding occurrence_places
each_occurrence p w =
    each_map (λ x. IsMatch p w x.start x.end × (list_all (is_not_wider x) (match_places p w) ≡ true)) (λ x. IsOccurrence p w x.start x.end)
    (λ x h. record {
      is = h.0;
      maximal = λ s e m a b.
          not_wider x (record { start = s; end = e })
          (at_place (λ y. is_not_wider x y ≡ true) s e (match_places p w) (test_all (is_not_wider x) (match_places p w) h.1) (has_match p w s e m))
          a b;
    })
    (filter (λ x. list_all (is_not_wider x) (match_places p w)) (match_places p w))
    (each_and (λ x. IsMatch p w x.start x.end) (λ x. list_all (is_not_wider x) (match_places p w) ≡ true)
    (filter (λ x. list_all (is_not_wider x) (match_places p w)) (match_places p w))
    (each_filter (λ x. IsMatch p w x.start x.end) (λ x. list_all (is_not_wider x) (match_places p w)) (match_places p w) (each_match p w))
    (each_passes (λ x. list_all (is_not_wider x) (match_places p w)) (match_places p w)))

has_occurrence : (p : Shape) (w : List Letter) (s e : ℕ) → IsOccurrence p w s e → OneOf (IsPlace s e) (occurrence_places p w)
unfolding occurrence_places
has_occurrence p w s e o =
    one_filter (λ x. list_all (is_not_wider x) (match_places p w)) s e (match_places p w)
    (all_test (is_not_wider (record { start = s; end = e })) (match_places p w)
    (each_map (λ y. IsMatch p w y.start y.end) (λ y. is_not_wider (record { start = s; end = e }) y ≡ true)
    (λ y m. is_widest (record { start = s; end = e }) y (λ a b. o.maximal y.start y.end m a b))
    (match_places p w) (each_match p w)))
    (has_match p w s e o.is)

ordered_occurrences : (p : Shape) (w : List Letter) → Ordered (occurrence_places p w)
unfolding occurrence_places match_places
ordered_occurrences p w =
    ordered_filter (λ x. list_all (is_not_wider x) (match_places p w)) (match_places p w)
    (ordered_filter (λ x. is_word p (slice_range w x.start x.end)) (places_after 0 (length w)) (after_ordered 0 (length w)))

-- two occurrences with one start are one
rising_ordered : (p : Shape) (w : List Letter) (low : ℕ) (xs : List Place) → AllByRecursion (λ x. low ≤ x.start) xs → Ordered xs →
    AllByRecursion (λ x. IsOccurrence p w x.start x.end) xs → RisingPlaces low xs
rising_ordered p w low [] l h o = tt
rising_ordered p w low (x ∷ xs) l h o = (
  l.0,
  rising_ordered p w (x.start + 1) xs
      (each_map (λ y. After x y × IsOccurrence p w y.start y.end) (λ y. x.start + 1 ≤ y.start) (λ y k. later x y o.0 k.1 k.0) xs
      (each_and (After x) (λ y. IsOccurrence p w y.start y.end) xs h.0 o.1))
      h.1 o.1,
)
  where
    later : (x y : Place) → IsOccurrence p w x.start x.end → IsOccurrence p w y.start y.end → After x y → x.start + 1 ≤ y.start
    later x y o q h =
        ⊎_elim (λ a. omega arith)
        (λ a. absurd (let e = same_start_same p w x.start x.end y.end o (subst (λ s. IsOccurrence p w s y.end) (sym a.0) q) (let b = a.1 in omega arith) in
        let b = a.1 in omega arith))
        h

-- the list stands in the relation
are_occurrences : (p : Shape) (w : List Letter) → AreOccurrences p w (occurrence_places p w)
are_occurrences p w =
    record {
      rising = rising_ordered p w 0 (occurrence_places p w) (each_map (λ x. IsOccurrence p w x.start x.end) (λ x. 0 ≤ x.start) (λ x o. omega arith)
          (occurrence_places p w) (each_occurrence p w)) (ordered_occurrences p w) (each_occurrence p w);
      each = each_occurrence p w;
      all = λ s e o. has_occurrence p w s e o;
    }

-- and what stands in the relation is the list
pub ranges_are : (p : Shape) (b a : ℕ) (w : List Letter) (ranges : List Range) → AreRanges p b a w ranges → ranges ≡ occurrence_ranges p b a w
unfolding occurrence_ranges
ranges_are p b a w ranges h =
    h.2 ∙ ap (λ places. map (λ x. e_range b a x) places) (occurrences_unique p w h.0 (occurrence_places p w) h.1 (are_occurrences p w))

pub are_ranges : (p : Shape) (b a : ℕ) (w : List Letter) → AreRanges p b a w (occurrence_ranges p b a w)
unfolding occurrence_ranges
are_ranges p b a w = (occurrence_places p w, are_occurrences p w, refl)
