-- The laws of the join of lanes.
-- Lemmas, no definitions: they are here since ghost members of impls cite them.
use Rattle.std.proofs.Common.{◌≡◌, ℕ, suc, ◌<◌, ◌≤ℤ◌, ℤ, pos, List, [], ◌∷◌, length, get_or, replicate, refl, sym, ap, ◌∙◌, arith}
use Rattle.std.specs.Int.{int_max}
use Rattle.std.proofs.lemmas.Int.{ints}
use Rattle.ts_sweep.specs.Lanes.{greater_of, no_lanes, least, AreLanes}

max_associative : (x y z : ℤ) → int_max (int_max x y) z ≡ int_max x (int_max y z)
max_associative x y z = grind (arith, ints)

max_commutative : (x y : ℤ) → int_max x y ≡ int_max y x
max_commutative x y = grind (arith, ints)

max_idempotent : (x : ℤ) → int_max x x ≡ x
max_idempotent x = grind (arith, ints)

max_least : (x : ℤ) → least ≤ℤ x → int_max least x ≡ x
max_least x h = grind (arith, ints)

pub cons_same : (x y : ℤ) (xs ys : List ℤ) → x ≡ y → xs ≡ ys → (x ∷ xs) ≡ (y ∷ ys)
cons_same x y xs ys e f = ap (λ z. z ∷ xs) e ∙ ap (λ zs. y ∷ zs) f

pub lanes_associative : (xs ys zs : List ℤ) → greater_of (greater_of xs ys) zs ≡ greater_of xs (greater_of ys zs)
unfolding greater_of
lanes_associative [] ys zs = refl
lanes_associative (x ∷ xs) [] zs = refl
lanes_associative (x ∷ xs) (y ∷ ys) [] = refl
lanes_associative (x ∷ xs) (y ∷ ys) (z ∷ zs) = cons_same _ _ _ _ (max_associative x y z) (lanes_associative xs ys zs)

pub lanes_commutative : (xs ys : List ℤ) → greater_of xs ys ≡ greater_of ys xs
unfolding greater_of
lanes_commutative [] [] = refl
lanes_commutative [] (y ∷ ys) = refl
lanes_commutative (x ∷ xs) [] = refl
lanes_commutative (x ∷ xs) (y ∷ ys) = cons_same _ _ _ _ (max_commutative x y) (lanes_commutative xs ys)

pub lanes_idempotent : (xs : List ℤ) → greater_of xs xs ≡ xs
unfolding greater_of
lanes_idempotent [] = refl
lanes_idempotent (x ∷ xs) = cons_same _ _ _ _ (max_idempotent x) (lanes_idempotent xs)

tail_least : (x : ℤ) (xs : List ℤ) → ((k : ℕ) → k < length (x ∷ xs) → least ≤ℤ get_or (x ∷ xs) k (pos 0)) →
    (k : ℕ) → k < length xs → least ≤ℤ get_or xs k (pos 0)
tail_least x xs h k lt = h (suc k) (omega arith)

at_least : (xs : List ℤ) → ((k : ℕ) → k < length xs → least ≤ℤ get_or xs k (pos 0)) →
    greater_of (replicate (length xs) least) xs ≡ xs
unfolding greater_of
at_least [] h = refl
at_least (x ∷ xs) h = cons_same _ _ _ _ (max_least x (h 0 (omega arith))) (at_least xs (tail_least x xs h))

pub lanes_neutral : (n : ℕ) (xs : List ℤ) → AreLanes n xs → greater_of (no_lanes n) xs ≡ xs
lanes_neutral n xs h = ap (λ k. greater_of (replicate k least) xs) (sym h.0) ∙ at_least xs h.1
