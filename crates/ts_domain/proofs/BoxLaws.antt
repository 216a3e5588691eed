-- For the layers above: what a change makes of a box and its series, and when a value stays.
use Rattle.std.proofs.Common.{◌≡◌, ℕ, zero, suc, ◌+◌, ◌*◌, ◌<◌, ℤ, pos, ◌≤ℤ◌, ◌<ℤ◌, inl, inr, ◌↔◌, Bool, true, not, cond, List, [], ◌∷◌, length, map, get_or, set, refl, sym, ap, ◌∙◌, subst, arith, length-append}
use Rattle.std.proofs.lemmas.Int.{ints}
use Rattle.std.proofs.lemmas.Bool.{both_ways}
use Rattle.std.proofs.lemmas.Bool.Decides.{Decides-int_eq}
use Rattle.std.proofs.lemmas.List.{length-map}
use Rattle.std.proofs.lemmas.List.Elements.{All-contains, All-from_recursion}
use Rattle.std.proofs.lemmas.List.Filters.{length-filter_both}
use Rattle.std.specs.Prelude.{filter, int_le, int_lt, Contains}
use Rattle.std.specs.Ordering.{int_eq}
use Rattle.std.specs.List.{AllByRecursion, flat_map}
use Rattle.ts_domain.specs.Values.{IsRising, IsDomain, WithinLimits}
use Rattle.ts_domain.specs.Kept.{values_up_to, values_above, values_without}
use Rattle.ts_domain.specs.BoxSeries.{Boxes, InBox, IsBox, all_series, series_count, cell_of}
use Rattle.ts_domain.proofs.Sets.{contains_cons, contains_filter, each_filter, rising_filter, differs, itself, le_true, true_le, lt_true, true_lt}

pub contains_up_to : (t : ℤ) (xs : List ℤ) (v : ℤ) → Contains (values_up_to t xs) v ↔ (Contains xs v × (v ≤ℤ t))
contains_up_to t xs v = let f = contains_filter (λ v. int_le v t) xs v in (λ h. ((f.0 h).0, true_le v t (f.0 h).1), λ h. f.1 (h.0, le_true v t h.1))

pub contains_above : (t : ℤ) (xs : List ℤ) (v : ℤ) → Contains (values_above t xs) v ↔ (Contains xs v × (t <ℤ v))
contains_above t xs v = let f = contains_filter (λ v. int_lt t v) xs v in (λ h. ((f.0 h).0, true_lt t v (f.0 h).1), λ h. f.1 (h.0, lt_true t v h.1))

pub contains_without : (gone : ℤ) (xs : List ℤ) (v : ℤ) → Contains (values_without gone xs) v ↔ (Contains xs v × (v ≡ gone → ⊥))
contains_without gone xs v = let f = contains_filter (λ v. not (int_eq v gone)) xs v in
    (λ h. ((f.0 h).0, from_test v gone (f.0 h).1), λ h. f.1 (h.0, differs gone v h.1))
  where
    from_test : (a b : ℤ) → not (int_eq a b) ≡ true → a ≡ b → ⊥
    from_test a b h e = both_ways (not (int_eq a b)) (ap not ((Decides-int_eq a b).1 e)) h

-- a value that passes stays
pub some_stay : (xs : List ℤ) (v : ℤ) → Contains xs v → xs ≡ [] → ⊥
some_stay xs v h none = omega (arith, h.1, ap length none)

-- a series of a box, and of the box with another set at one place
pub in_box_at : (xs : List ℤ) (cells : List (List ℤ)) (i : ℕ) → InBox xs cells → i < length cells → Contains (get_or cells i []) (get_or xs i (pos 0))
in_box_at [] [] i h below = absurd (omega (arith, below))
in_box_at [] (d ∷ ds) i h below = absurd h
in_box_at (v ∷ vs) [] i h below = absurd h
in_box_at (v ∷ vs) (d ∷ ds) zero h below = h.0
in_box_at (v ∷ vs) (d ∷ ds) (suc i) h below = in_box_at vs ds i h.1 (omega (arith, below))

pub in_box_set : (xs : List ℤ) (cells : List (List ℤ)) (i : ℕ) (d : List ℤ) → InBox xs cells → Contains d (get_or xs i (pos 0)) → InBox xs (set cells i d)
in_box_set [] [] i d h has = tt
in_box_set [] (c ∷ cs) i d h has = absurd h
in_box_set (v ∷ vs) [] i d h has = absurd h
in_box_set (v ∷ vs) (c ∷ cs) zero d h has = (has, h.1)
in_box_set (v ∷ vs) (c ∷ cs) (suc i) d h has = (h.0, in_box_set vs cs i d h.1 has)

pub from_box_set : (xs : List ℤ) (cells : List (List ℤ)) (i : ℕ) (d : List ℤ) → i < length cells → InBox xs (set cells i d) →
    ((v : ℤ) → Contains d v → Contains (get_or cells i []) v) → InBox xs cells × Contains d (get_or xs i (pos 0))
from_box_set xs [] i d below h part = absurd (omega (arith, below))
from_box_set [] (c ∷ cs) zero d below h part = absurd h
from_box_set [] (c ∷ cs) (suc i) d below h part = absurd h
from_box_set (v ∷ vs) (c ∷ cs) zero d below h part = ((part v h.0, h.1), h.0)
from_box_set (v ∷ vs) (c ∷ cs) (suc i) d below h part = let r = from_box_set vs cs i d (omega (arith, below)) h.1 part in ((h.0, r.0), r.1)

-- what stays of a domain is one, where a value stays
pub domain_filter : (test : ℤ → Bool) (d : List ℤ) → IsDomain d → (filter test d ≡ [] → ⊥) → IsDomain (filter test d)
domain_filter test d h some = record { rising = rising_filter test d h.rising; some = some; within = each_filter WithinLimits test d h.within }

-- the two sides of a split have all values between them
pub length-sides : (t : ℤ) (xs : List ℤ) → length (values_up_to t xs) + length (values_above t xs) ≡ length xs
length-sides t xs = length-filter_both (λ v. int_le v t) (λ v. int_lt t v) (λ v. other t v) xs
  where
    other : (t v : ℤ) → int_lt t v ≡ not (int_le v t)
    other t v = grind (arith, ints)

none_gone : (gone : ℤ) (xs : List ℤ) → AllByRecursion (λ y. gone <ℤ y) xs → values_without gone xs ≡ xs
none_gone gone [] h = refl
none_gone gone (x ∷ xs) h = ap (λ b. cond b (x ∷ values_without gone xs) (values_without gone xs)) (differs gone x (λ e. below_itself gone x h.0 e))
    ∙ ap (λ l. x ∷ l) (none_gone gone xs h.1)
  where
    below_itself : (a b : ℤ) → a <ℤ b → b ≡ a → ⊥
    below_itself a b h e = omega (arith, ints, h, e)

pub length-without : (gone : ℤ) (xs : List ℤ) → IsRising xs → Contains xs gone → length (values_without gone xs) + 1 ≡ length xs
unfolding IsRising
length-without gone [] h has = absurd (omega (arith, has.1))
length-without gone (x ∷ xs) h has =
    elim ((contains_cons x xs gone).0 has) [
      | inl here ↦ let all = subst (λ y. AllByRecursion (λ z. y <ℤ z) xs) here h.0 in
          let e = ap (λ b. length (cond b (x ∷ values_without gone xs) (values_without gone xs))) (itself gone x here) in
          let f = ap length (none_gone gone xs all) in omega (arith, e, f)
      | inr there ↦ let rest = length-without gone xs h.1 there in
          let e = ap (λ b. length (cond b (x ∷ values_without gone xs) (values_without gone xs)))
          (differs gone x (λ s. below_later x xs gone h.0 there (sym s))) in omega (arith, e, rest)
    ]
  where
    below_later : (x : ℤ) (xs : List ℤ) (v : ℤ) → AllByRecursion (λ y. x <ℤ y) xs → Contains xs v → v ≡ x → ⊥
    below_later x xs v all has e = let p = All-contains (λ y. x <ℤ y) xs v (All-from_recursion (λ y. x <ℤ y) xs all) has in omega (arith, ints, p, e)

-- the number of series is the product of the numbers of values
same_lengths : (f : ℤ → List (List ℤ)) (n : ℕ) (d : List ℤ) → ((v : ℤ) → length (f v) ≡ n) → length (flat_map f d) ≡ length d * n
same_lengths f n [] each = omega arith
same_lengths f n (v ∷ vs) each =
    let rest = same_lengths f n vs each in let e : (length vs + 1) * n ≡ length vs * n + n = omega arith in
    omega (arith, rest, each v, e, length-append (f v) (flat_map f vs))

pub series_count-cons : (d : List ℤ) (ds : List (List ℤ)) → series_count (d ∷ ds) ≡ length d * series_count ds
unfolding all_series
series_count-cons d ds = same_lengths (λ v. map (λ vs. v ∷ vs) (all_series ds)) (length (all_series ds)) d (λ v. length-map (all_series ds) (λ vs. v ∷ vs))

pub some_series : (cells : List (List ℤ)) → IsBox cells → 0 < series_count cells
unfolding all_series
some_series [] h = omega arith
some_series (d ∷ ds) h = product_positive (length d) (series_count ds) (series_count (d ∷ ds)) (series_count-cons d ds) (not_empty d h.0.some)
    (some_series ds h.1)
  where
    not_empty : (d : List ℤ) → (d ≡ [] → ⊥) → 0 < length d
    not_empty [] some = absurd (some refl)
    not_empty (v ∷ vs) some = omega arith

    product_positive : (a b c : ℕ) → c ≡ a * b → 0 < a → 0 < b → 0 < c
    product_positive zero b c e h k = absurd (omega (arith, h))
    product_positive (suc a) b c e h k = let f : suc a * b ≡ a * b + b = omega arith in omega (arith, e, f, k)

-- two sets that share the values of a cell share its series
pub series_count-split : (cells : List (List ℤ)) (i : ℕ) (a b : List ℤ) → i < length cells → length a + length b ≡ length (get_or cells i []) →
    series_count (set cells i a) + series_count (set cells i b) ≡ series_count cells
series_count-split [] i a b below parts = absurd (omega (arith, below))
series_count-split (c ∷ cs) zero a b below parts =
    let e : (length a + length b) * series_count cs ≡ length a * series_count cs + length b * series_count cs = omega arith in
    let f = ap (λ n. n * series_count cs) parts in
    omega (arith, series_count-cons a cs, series_count-cons b cs, series_count-cons c cs, e, f)
series_count-split (c ∷ cs) (suc i) a b below parts =
    let rest = series_count-split cs i a b (omega (arith, below)) parts in
    let e : length c * (series_count (set cs i a) + series_count (set cs i b)) ≡ length c * series_count (set cs i a) + length c * series_count
    (set cs i b) = omega arith in
    let f = ap (λ n. length c * n) rest in
    omega (arith, series_count-cons c (set cs i a), series_count-cons c (set cs i b), series_count-cons c cs, e, f)

-- when a value stays in a cell that is read
pub low_stays : (b : Boxes) (k : ℕ) (d : List ℤ) (v t : ℤ) → d ≡ cell_of k b → Contains d v → v ≤ℤ t → values_up_to t (cell_of k b) ≡ [] → ⊥
low_stays b k d v t is has h none = some_stay (values_up_to t d) v ((contains_up_to t d v).1 (has, h)) (ap (values_up_to t) is ∙ none)

pub high_stays : (b : Boxes) (k : ℕ) (d : List ℤ) (v t : ℤ) → d ≡ cell_of k b → Contains d v → t <ℤ v → values_above t (cell_of k b) ≡ [] → ⊥
high_stays b k d v t is has h none = some_stay (values_above t d) v ((contains_above t d v).1 (has, h)) (ap (values_above t) is ∙ none)

pub other_stays : (b : Boxes) (k : ℕ) (d : List ℤ) (v gone : ℤ) → d ≡ cell_of k b → Contains d v → (v ≡ gone → ⊥) → values_without gone (cell_of k b) ≡ [] → ⊥
other_stays b k d v gone is has h none = some_stay (values_without gone d) v ((contains_without gone d v).1 (has, h)) (ap (values_without gone) is ∙ none)
