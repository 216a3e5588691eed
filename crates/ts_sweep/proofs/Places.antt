-- Places of the hulls of a state in a row.
use Rattle.std.proofs.Common.{◌≡◌, ◌≢◌, ℕ, zero, suc, ◌+◌, ◌-◌, ◌*◌, ◌<◌, ◌≤◌, ◌⊎◌, inl, inr, Bool, true, false, not, List, length, map, get_or, refl, sym, ap, ◌∙◌, arith}
use Rattle.std.specs.List.{range_with_len}
use Rattle.std.proofs.lemmas.Bool.{cases_lt}
use Rattle.std.proofs.lemmas.List.{get_or-set_same, get_or-set_other, length-set}
use Rattle.std.proofs.lemmas.List.FromFn.{fill_by_all, length-map-range_with_len, get_or-map-range_with_len}
use Rattle.std.proofs.Math.ListN.{get_or-eq_default}
use Rattle.std.proofs.Math.Nat.{mul-le-mul_right}
use Rattle.ts_automaton.specs.declared.regs.Hull.{Hull}
use Rattle.ts_hull.specs.Hulls.{none, hull_of_both}
use Rattle.ts_hull.specs.Sweeps.{hull_in, with_hull_at}
use Rattle.ts_sweep.specs.Strided.{AreBeside}

pub not_not : (b : Bool) → not (not b) ≡ b
not_not true = refl
not_not false = refl

abbrev IsPlace : ℕ → ℕ → ℕ → Type 0
IsPlace s n p = (j : ℕ) × (t : ℕ) × (j < n) × (t < s) × (j * s + t ≡ p)

place_later : (s n p : ℕ) → s ≤ p → IsPlace s n (p - s) → IsPlace s (suc n) p
place_later s n p le (j, t, lt, b, e) = (suc j, t, omega (arith, lt), b, omega (arith, e, le))

place_of : (s n p : ℕ) → p < n * s → IsPlace s n p
place_of s zero p h = absurd (omega arith)
place_of s (suc n) p h = go (place_of s n (p - s)) (cases_lt p s)
  where
    go : (p - s < n * s → IsPlace s n (p - s)) → (p < s) ⊎ (s ≤ p) → IsPlace s (suc n) p
    go rest (inl l) = (0, p, omega arith, l, omega arith)
    go rest (inr le) = place_later s n p le (rest (omega (arith, h, le)))

pub same_rows : (s n : ℕ) (xs ys : List Hull) → length xs ≡ n * s → length ys ≡ n * s →
    ((j t : ℕ) → j < n → t < s → get_or xs (j * s + t) none ≡ get_or ys (j * s + t) none) → xs ≡ ys
same_rows s n xs ys a b h =
    fill_by_all (λ p. get_or ys p none) xs (n * s) none a (λ p lt. at p (place_of s n p lt))
    ∙ sym (fill_by_all (λ p. get_or ys p none) ys (n * s) none b (λ p lt. refl))
  where
    at : (p : ℕ) → ((j : ℕ) × (t : ℕ) × (j < n) × (t < s) × (j * s + t ≡ p)) → get_or xs p none ≡ get_or ys p none
    at p (j, t, lt, c, e) = ap (λ z. get_or xs z none) (sym e) ∙ h j t lt c ∙ ap (λ z. get_or ys z none) e

place_row : (s j k t r : ℕ) → t < s → r < s → j * s + t ≡ k * s + r → j ≡ k
place_row s j k t r a b e = go (three j k)
  where
    three : (j k : ℕ) → (j < k) ⊎ ((j ≡ k) ⊎ (k < j))
    three j k = grind arith

    apart : (j k t r : ℕ) → t < s → j < k → j * s + t ≡ k * s + r → ⊥
    apart j k t r a lt e = let m : suc j * s ≤ k * s = mul-le-mul_right s lt in let w : suc j * s ≡ j * s + s = omega arith in omega arith

    go : (j < k) ⊎ ((j ≡ k) ⊎ (k < j)) → j ≡ k
    go (inl h) = absurd (apart j k t r a h e)
    go (inr (inl h)) = h
    go (inr (inr h)) = absurd (apart k j r t b h (sym e))

pub other_state : (s j k t r : ℕ) → t < s → r < s → (r ≡ t → ⊥) → j * s + t ≡ k * s + r → ⊥
other_state s j k t r a b apart e =
    let same : j ≡ k = place_row s j k t r a b e in
    let there : k * s + t ≡ k * s + r = sym (ap (λ z. z * s + t) same) ∙ e in
    apart (omega (arith, there))

-- a column of the state r of s
pub column_at : (s r n : ℕ) (row : List Hull) (j : ℕ) → j < n → get_or (map (hull_in s r row) (range_with_len 0 n)) j none ≡ hull_in s r row j
column_at s r n row j lt = get_or-map-range_with_len (hull_in s r row) 0 n j j none lt (omega arith)

-- a hull is taken in at place i of the column of the state r of s

pub inside_row : (s n r i : ℕ) → r < s → i < n → i * s + r < n * s
inside_row s n r i b lt = let m : suc i * s ≤ n * s = mul-le-mul_right s lt in let w : suc i * s ≡ i * s + s = omega arith in omega (arith, b)

pub columns_long : (s r n : ℕ) (row : List Hull) → length (map (hull_in s r row) (range_with_len 0 n)) ≡ n
columns_long s r n row = length-map-range_with_len (hull_in s r row) 0 n

pub in_column : (s r n i : ℕ) (row : List Hull) → i < length (map (hull_in s r row) (range_with_len 0 n)) → i < n
in_column s r n i row lt = let e = columns_long s r n row in omega (arith, lt, e)

pub joined_here : (s r n i : ℕ) (row : List Hull) (h : Hull) → r < s → length row ≡ n * s → i < n →
    get_or (map (hull_in s r (with_hull_at row (i * s + r) h)) (range_with_len 0 n)) i none
    ≡ hull_of_both (get_or (map (hull_in s r row) (range_with_len 0 n)) i none) h
joined_here s r n i row h b long lt =
    let inside = inside_row s n r i b lt in
    column_at s r n (with_hull_at row (i * s + r) h) i lt
    ∙ get_or-set_same row (i * s + r) (hull_of_both (get_or row (i * s + r) none) h) none (omega (arith, inside, long))
    ∙ ap (λ z. hull_of_both z h) (sym (column_at s r n row i lt))

pub joined_others : (s r n i : ℕ) (row : List Hull) (h : Hull) → r < s → (k : ℕ) → k ≢ i →
    get_or (map (hull_in s r (with_hull_at row (i * s + r) h)) (range_with_len 0 n)) k none ≡ get_or (map (hull_in s r row) (range_with_len 0 n)) k none
joined_others s r n i row h b k apart = go (cases_lt k n)
  where
    new : List Hull
    new = with_hull_at row (i * s + r) h

    go : (k < n) ⊎ (n ≤ k) → get_or (map (hull_in s r new) (range_with_len 0 n)) k none ≡ get_or (map (hull_in s r row) (range_with_len 0 n)) k none
    go (inl lt) =
        column_at s r n new k lt
        ∙ get_or-set_other row (i * s + r) (k * s + r) (hull_of_both (get_or row (i * s + r) none) h) none (λ e. apart (place_row s k i r r b b e))
        ∙ sym (column_at s r n row k lt)
    go (inr le) =
        let a = columns_long s r n new in let c = columns_long s r n row in
        get_or-eq_default (map (hull_in s r new) (range_with_len 0 n)) none (omega (arith, a, le))
        ∙ sym (get_or-eq_default (map (hull_in s r row) (range_with_len 0 n)) none (omega (arith, c, le)))

pub joined_beside : (s r n i : ℕ) (row : List Hull) (h : Hull) → i < n → AreBeside r s n row (with_hull_at row (i * s + r) h)
joined_beside s r n i row h lt = record {
  len = length-set row (i * s + r) (hull_of_both (get_or row (i * s + r) none) h);
  same = λ p apart. get_or-set_other row (i * s + r) p (hull_of_both (get_or row (i * s + r) none) h) none (apart i lt);
}
