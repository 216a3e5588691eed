-- The parts of the model of `sample`, as they are made; and that it keeps the limits of a model with an objective.
use Rattle.std.proofs.Common.{◌≡◌, ℕ, zero, suc, ◌+◌, ◌-◌, ◌*◌, ◌%◌, ◌<◌, ◌≤◌, ℤ, pos, negsuc, ◌+ℤ◌, w64, to_z, of_z, inl, inr, ◌↔◌, List, [], ◌∷◌, ◌++◌, length, get_or, map, refl, sym, ◌∙◌, ap, subst, arith, mod-lt}
use Rattle.std.proofs.lemmas.Int.{fits_signed_from_abs, ints, to_z-of_z}
use Rattle.std.proofs.lemmas.List.Sums.{sum_by-cons}
use Rattle.std.specs.Prelude.{Contains, Option, String, Some, unsigned_abs, ◌≤ℤ◌, ◌<ℤ◌}
use Rattle.std.specs.Global.{Global}
use Rattle.std.specs.List.{AllByRecursion}
use Rattle.ts_base.specs.declared.ext.Ext.TheVariants.{Int}
use Rattle.ts_base.specs.Limits.{IsCellValue, most_cells}
use Rattle.ts_domain.specs.BoxSeries.{IsBox}
use Rattle.ts_domain.specs.Union.{InSomeRange}
use Rattle.ts_domain.specs.Values.{IsDomain, IsRising}
use Rattle.ts_domain.proofs.Sets.{contains_cons, each_contains, nothing_in}
use Rattle.ts_model.specs.declared.model.Need.TheVariants.{Best as NeedsBest}
use Rattle.ts_model.specs.Promise.{IsWhole, KeepsLimits}
use Rattle.ts_model.specs.declared.model.Op.TheVariants.{AtMost}
use Rattle.ts_model.specs.declared.model.Require.{Require}
use Rattle.ts_model.specs.ModelParts.{ModelParts, total_of}
use Rattle.ts_run.specs.Quantities.{IsWithin}
use Rattle.ts_model.specs.declared.model.Window.{Window}
use Rattle.ts_model.specs.Views.{term_of, with_windows}
use Rattle.ts_pattern.specs.declared.term.Term.{Term}
use Rattle.ts_run.specs.SampleModel.{cells_from, least_of, no_windows, sample_stated, six_from}

-- Six values as a set.

here : (x : ℤ) (xs : List ℤ) → Contains (x ∷ xs) x
here x xs = (contains_cons x xs x).1 (inl refl)

there : (x : ℤ) (xs : List ℤ) (v : ℤ) → Contains xs v → Contains (x ∷ xs) v
there x xs v h = (contains_cons x xs v).1 (inr h)

-- a number of the first list beyond its head is in the second beyond its head
beyond : (x y : ℤ) (xs ys : List ℤ) → x ≡ y → AllByRecursion (λ z. x <ℤ z) xs → ((v : ℤ) → Contains (x ∷ xs) v → Contains (y ∷ ys) v) →
    (v : ℤ) → Contains xs v → Contains ys v
beyond x y xs ys same above f v h =
    elim ((contains_cons y ys v).0 (f v (there x xs v h))) [
      | inl e ↦ absurd (let more = each_contains (λ z. x <ℤ z) xs v above h in omega (arith, ints, more, same, e))
      | inr k ↦ k
    ]

-- two rising lists with the same numbers are one
same_rising : (xs ys : List ℤ) → IsRising xs → IsRising ys → ((v : ℤ) → Contains xs v → Contains ys v) → ((v : ℤ) → Contains ys v → Contains xs v) → xs ≡ ys
unfolding IsRising
same_rising [] [] r s f g = refl
same_rising [] (y ∷ ys) r s f g = absurd (nothing_in y (g y (here y ys)))
same_rising (x ∷ xs) [] r s f g = absurd (nothing_in x (f x (here x xs)))
same_rising (x ∷ xs) (y ∷ ys) r s f g =
    let head = heads in
    ap (λ (z : ℤ). z ∷ xs) head
    ∙ ap (λ (z : List ℤ). y ∷ z) (same_rising xs ys r.1 s.1 (beyond x y xs ys head r.0 f) (beyond y x ys xs (sym head) s.0 g))
  where
    heads : x ≡ y
    heads = elim ((contains_cons y ys x).0 (f x (here x xs))) [
      | inl e ↦ sym e
      | inr h ↦ elim ((contains_cons x xs y).0 (g y (here y ys))) [
        | inl e ↦ e
        | inr k ↦ absurd (let a = each_contains (λ z. y <ℤ z) ys x s.0 h in let b = each_contains (λ z. x <ℤ z) xs y r.0 k in omega (arith, ints, a, b))
      ]
    ]

abbrev last_one : ℕ → List ℤ
last_one l = pos (l + 5) ∷ []

abbrev last_two : ℕ → List ℤ
last_two l = pos (l + 4) ∷ last_one l

abbrev last_three : ℕ → List ℤ
last_three l = pos (l + 3) ∷ last_two l

abbrev last_four : ℕ → List ℤ
last_four l = pos (l + 2) ∷ last_three l

abbrev last_five : ℕ → List ℤ
last_five l = pos (l + 1) ∷ last_four l

in_five : (l : ℕ) (v : ℤ) → Contains (last_five l) v → Contains (six_from l) v
in_five l v h = there (pos l) (last_five l) v h

in_four : (l : ℕ) (v : ℤ) → Contains (last_four l) v → Contains (six_from l) v
in_four l v h = in_five l v (there (pos (l + 1)) (last_four l) v h)

in_three : (l : ℕ) (v : ℤ) → Contains (last_three l) v → Contains (six_from l) v
in_three l v h = in_four l v (there (pos (l + 2)) (last_three l) v h)

in_two : (l : ℕ) (v : ℤ) → Contains (last_two l) v → Contains (six_from l) v
in_two l v h = in_three l v (there (pos (l + 3)) (last_two l) v h)

in_one : (l : ℕ) (v : ℤ) → Contains (last_one l) v → Contains (six_from l) v
in_one l v h = in_two l v (there (pos (l + 4)) (last_one l) v h)

pub six_at : (l k : ℕ) → k ≤ 5 → Contains (six_from l) (pos (l + k))
six_at l zero h = subst (λ (i : ℕ). Contains (six_from l) (pos i)) (let e : l ≡ l + 0 = omega arith in e) (here (pos l) (last_five l))
six_at l (suc zero) h = in_five l (pos (l + 1)) (here (pos (l + 1)) (last_four l))
six_at l (suc (suc zero)) h = in_four l (pos (l + 2)) (here (pos (l + 2)) (last_three l))
six_at l (suc (suc (suc zero))) h = in_three l (pos (l + 3)) (here (pos (l + 3)) (last_two l))
six_at l (suc (suc (suc (suc zero)))) h = in_two l (pos (l + 4)) (here (pos (l + 4)) (last_one l))
six_at l (suc (suc (suc (suc (suc zero))))) h = in_one l (pos (l + 5)) (here (pos (l + 5)) [])
six_at l (suc (suc (suc (suc (suc (suc k)))))) h = absurd (omega (arith, h))

abbrev IsAmong : ℕ → ℤ → Type 0
IsAmong l v = (pos l ≤ℤ v) × (v ≤ℤ pos (l + 5))

each_among : (l : ℕ) → AllByRecursion (IsAmong l) (six_from l)
each_among l =
    let low = λ (k : ℕ). let h : pos l ≤ℤ pos (l + k) = omega (arith, ints) in h in
    let up = λ (k : ℕ) (few : k ≤ 5). let h : pos (l + k) ≤ℤ pos (l + 5) = omega (arith, ints, few) in h in (
      (omega (arith, ints), omega (arith, ints)),
      (
        (low 1, up 1 (omega arith)),
        (
          (low 2, up 2 (omega arith)),
          (
            (low 3, up 3 (omega arith)),
            ((low 4, up 4 (omega arith)), ((low 5, up 5 (omega arith)), tt)),
          ),
        ),
      ),
    )

six_has : (l : ℕ) (v : ℤ) → IsAmong l v → Contains (six_from l) v
six_has l (negsuc n) h = absurd (let low = h.0 in omega (arith, ints, low))
six_has l (pos n) h =
    let low : l ≤ n = let a = h.0 in omega (arith, ints, a) in
    let high : n ≤ l + 5 = let a = h.1 in omega (arith, ints, a) in
    let same : l + (n - l) ≡ n = omega (arith, low) in
    subst (λ i. Contains (six_from l) (pos i)) same (six_at l (n - l) (omega (arith, low, high)))

one_at : (low high v : ℤ) (i : ℕ) → i < 1 → get_or (low ∷ []) i (pos 0) ≤ℤ v → v ≤ℤ get_or (high ∷ []) i (pos 0) → (low ≤ℤ v) × (v ≤ℤ high)
one_at low high v zero less a b = (a, b)
one_at low high v (suc i) less a b = absurd (omega (arith, less))

one_range : (low high v : ℤ) → InSomeRange (low ∷ []) (high ∷ []) v → (low ≤ℤ v) × (v ≤ℤ high)
one_range low high v h = one_at low high v h.0 h.1 h.2 h.3

in_range : (low high v : ℤ) → low ≤ℤ v → v ≤ℤ high → InSomeRange (low ∷ []) (high ∷ []) v
in_range low high v a b = (0, omega arith, a, b)

six_rising : (l : ℕ) → IsRising (six_from l)
unfolding IsRising
six_rising l = (
  (omega (arith, ints), (omega (arith, ints), (omega (arith, ints), (omega (arith, ints), (omega (arith, ints), tt))))),
  (
    (omega (arith, ints), (omega (arith, ints), (omega (arith, ints), (omega (arith, ints), tt)))),
    (
      (omega (arith, ints), (omega (arith, ints), (omega (arith, ints), tt))),
      (
        (omega (arith, ints), (omega (arith, ints), tt)),
        (
          (omega (arith, ints), tt),
          (
            tt,
            tt,
          ),
        ),
      ),
    ),
  ),
)

-- the union of one range is the six values of it
pub six_made : (l : ℕ) (lows highs d : List ℤ) → lows ≡ pos l ∷ [] → highs ≡ pos (l + 5) ∷ [] → IsDomain d →
    ((v : ℤ) → Contains d v ↔ InSomeRange lows highs v) → d ≡ six_from l
six_made l lows highs d lows_are highs_are domain union =
    let half = subst (λ (z : List ℤ). (v : ℤ) → Contains d v ↔ InSomeRange lows z v) highs_are union in
    let whole = subst (λ (z : List ℤ). (v : ℤ) → Contains d v ↔ InSomeRange z (pos (l + 5) ∷ []) v) lows_are half in
    same_rising d (six_from l) domain.rising (six_rising l)
    (λ v h. six_has l v (one_range (pos l) (pos (l + 5)) v ((whole v).0 h)))
    (λ v h. let a = each_contains (IsAmong l) (six_from l) v (each_among l) h in (whole v).1 (in_range (pos l) (pos (l + 5)) v a.0 a.1))

pub low_within : (l : ℕ) → l ≤ 14 → IsCellValue (pos l)
low_within l h = (omega (arith, ints), omega (arith, ints, h))

-- the least and the greatest of six values, as the code has them

pub low_is : (l : ℕ) (low : ℤ) → low ≡ pos l → l ≤ 9 → to_z w64 (of_z w64 low) ≡ pos l
low_is l low e h =
    let small : unsigned_abs low < 9223372036854775808 = omega (arith, ints, e, h) in
    to_z-of_z w64 low (fits_signed_from_abs w64 low small) ∙ e

pub high_is : (l : ℕ) → l ≤ 9 → to_z w64 (of_z w64 (pos l +ℤ pos 5)) ≡ pos (l + 5)
high_is l h =
    let small : unsigned_abs (pos l +ℤ pos 5) < 9223372036854775808 = omega (arith, ints, h) in
    let same : pos l +ℤ pos 5 ≡ pos (l + 5) = omega (arith, ints) in
    to_z-of_z w64 (pos l +ℤ pos 5) (fits_signed_from_abs w64 (pos l +ℤ pos 5) small) ∙ same

-- The cells.

cells_more : (k n : ℕ) → cells_from k n ++ six_from (least_of (k + n)) ∷ [] ≡ cells_from k (suc n)
cells_more k zero = ap (λ (i : ℕ). six_from (least_of i) ∷ []) (let e : k + 0 ≡ k = omega arith in e)
cells_more k (suc n) =
    ap (λ (z : List (List ℤ)). six_from (least_of k) ∷ z)
    (ap (λ (i : ℕ). cells_from (k + 1) n ++ six_from (least_of i) ∷ []) (let e : k + suc n ≡ (k + 1) + n = omega arith in e) ∙ cells_more (k + 1) n)

-- one more cell, the one at this place
pub cell_pushed : (k : ℕ) (old new : List (List ℤ)) (d : List ℤ) → old ≡ cells_from 1 k → new ≡ old ++ d ∷ [] → d ≡ six_from (7 * (k + 1) % 10) →
    new ≡ cells_from 1 (k + 1)
cell_pushed k old new d so_far pushed values =
    pushed ∙ ap (λ (z : List (List ℤ)). z ++ d ∷ []) so_far ∙ ap (λ (z : List ℤ). cells_from 1 k ++ z ∷ []) values
    ∙ ap (λ (i : ℕ). cells_from 1 k ++ six_from (least_of i) ∷ []) (let e : k + 1 ≡ 1 + k = omega arith in e)
    ∙ cells_more 1 k ∙ ap (cells_from 1) (let e : suc k ≡ k + 1 = omega arith in e)

pub least_small : (k : ℕ) → least_of k ≤ 9
least_small k = let less : 7 * k % 10 < 10 = mod-lt (7 * k) (omega arith) in omega (arith, less)

pub cells_count : (k n : ℕ) → length (cells_from k n) ≡ n
cells_count k zero = refl
cells_count k (suc n) = ap suc (cells_count (k + 1) n)

six_domain : (l : ℕ) → l ≤ 9 → IsDomain (six_from l)
six_domain l h = record {
  rising = six_rising l;
  some = λ e. cc;
  within = (
    low_within l (omega (arith, h)),
    (
      low_within (l + 1) (omega (arith, h)),
      (
        low_within (l + 2) (omega (arith, h)),
        (low_within (l + 3) (omega (arith, h)), (low_within (l + 4) (omega (arith, h)), (low_within (l + 5) (omega (arith, h)), tt))),
      ),
    ),
  );
}

cells_box : (k n : ℕ) → IsBox (cells_from k n)
cells_box k zero = tt
cells_box k (suc n) = (six_domain (least_of k) (least_small k), cells_box (k + 1) n)

cells_total : (k n : ℕ) → total_of (cells_from k n) ≡ 6 * n
cells_total k zero = refl
cells_total k (suc n) =
    let first = sum_by-cons length (six_from (least_of k)) (cells_from (k + 1) n) in
    let rest = cells_total (k + 1) n in
    first ∙ (let e : 6 + total_of (cells_from (k + 1) n) ≡ 6 * suc n = omega (arith, rest) in e)

-- The model.

pub sample_whole : (n : ℕ) → IsWithin 1 most_cells n → IsWhole (sample_stated n)
sample_whole n h =
    let count = cells_count 1 n in
    let some = h.0 in
    let few = h.1 in
    record {
      some = omega (arith, count, some);
      few = omega (arith, count, few);
      windows = (tt, (tt, tt));
      requirements = (omega arith, tt);
      objective = omega arith;
    }

pub sample_limits : (n : ℕ) → IsWithin 1 most_cells n → KeepsLimits NeedsBest (sample_stated n)
sample_limits n h =
    let total = cells_total 1 n in
    let few = h.1 in
    record {
      box = cells_box 1 n;
      total = λ e. omega (arith, total, few);
      terms = omega arith;
      requirements = omega arith;
      bounds = (refl, tt);
      objective = λ e. refl;
    }

-- the terms with the windows that were made
pub windows_made : (es : List (String Global × Term)) (ws : List (Option Window)) → ws ≡ no_windows →
    map term_of (with_windows es no_windows) ≡ (sample_stated 1).terms → map term_of (with_windows es ws) ≡ (sample_stated 1).terms
windows_made es ws none is = ap (λ (z : List (Option Window)). map term_of (with_windows es z)) none ∙ is

-- a model of these parts is the one that is asked for
pub model_is : (n : ℕ) (m : ModelParts) (old : List Require) → m.cells ≡ cells_from 1 n → m.terms ≡ (sample_stated 1).terms → old ≡ [] →
    m.requirements ≡ old ++ record { term = 1; op = AtMost; bound = Int (pos 3) } ∷ [] → m.objective ≡ Some 0 → m ≡ sample_stated n
model_is n m old cells terms none requirements objective =
    let one = requirements ∙ ap (λ (z : List Require). z ++ record { term = 1; op = AtMost; bound = Int (pos 3) } ∷ []) none in
    (λ i. record { cells = cells i; terms = terms i; requirements = one i; objective = objective i })
