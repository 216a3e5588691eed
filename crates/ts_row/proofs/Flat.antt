-- The hulls of a row as one list, value by value.
use Rattle.std.proofs.Common.{◌≡◌, ℕ, zero, suc, ◌+◌, ◌*◌, ◌<◌, List, length, map, get_or, ap, ◌∙◌, arith}
use Rattle.std.specs.Prelude.{flat_map}
use Rattle.std.specs.List.{range_with_len}
use Rattle.std.proofs.lemmas.List.{length-append, get_or_append_left, get_or-append-add}
use Rattle.std.proofs.lemmas.List.FromFn.{length-map-range_with_len, get_or-map-range_with_len}
use Rattle.ts_automaton.specs.declared.regs.Hull.{Hull}
use Rattle.ts_hull.specs.Hulls.{none}
use Rattle.ts_row.specs.Rows.{flat_row, hull_in}
use Rattle.ts_sweep.specs.declared.packed.PackedHull.{PackedHull}

-- the list of s things for each of k numbers from p on
abbrev blocks : (g : ℕ → ℕ → Hull) → ℕ → ℕ → ℕ → List Hull
blocks g s p k = flat_map (λ i. map (g i) (range_with_len 0 s)) (range_with_len p k)

block_length : (g : ℕ → ℕ → Hull) (s p k : ℕ) → length (blocks g s p k) ≡ k * s
block_length g s p zero = omega arith
block_length g s p (suc k) =
    length-append (map (g p) (range_with_len 0 s)) (blocks g s (p + 1) k)
    ∙ ap (λ z. z + length (blocks g s (p + 1) k)) (length-map-range_with_len (g p) 0 s)
    ∙ ap (λ z. s + z) (block_length g s (p + 1) k)
    ∙ (let e : s + k * s ≡ suc k * s = omega arith in e)

block_at : (g : ℕ → ℕ → Hull) (s p k j t : ℕ) → j < k → t < s → get_or (blocks g s p k) (j * s + t) none ≡ g (p + j) t
block_at g s p zero j t less lt = absurd (omega (arith, less))
block_at g s p (suc k) zero t less lt =
    let first = map (g p) (range_with_len 0 s) in
    let long : length first ≡ s = length-map-range_with_len (g p) 0 s in
    let place : 0 * s + t ≡ t = omega arith in
    ap (λ z. get_or (blocks g s p (suc k)) z none) place
    ∙ get_or_append_left first (blocks g s (p + 1) k) none t (omega (arith, lt, long))
    ∙ get_or-map-range_with_len (g p) 0 s t t none lt (let e : 0 + t ≡ t = omega arith in e)
    ∙ ap (λ z. g z t) (let e : p ≡ p + 0 = omega arith in e)
block_at g s p (suc k) (suc j) t less lt =
    let first = map (g p) (range_with_len 0 s) in
    let long : length first ≡ s = length-map-range_with_len (g p) 0 s in
    let place : suc j * s + t ≡ length first + (j * s + t) = omega (arith, long) in
    ap (λ z. get_or (blocks g s p (suc k)) z none) place
    ∙ get_or-append-add first (blocks g s (p + 1) k) (j * s + t) none
    ∙ block_at g s (p + 1) k j t (omega (arith, less)) lt
    ∙ ap (λ z. g z t) (let e : (p + 1) + j ≡ p + suc j = omega arith in e)

pub flat_length : (n s k : ℕ) (row : List (List (PackedHull n))) → length (flat_row n s k row) ≡ k * s
unfolding flat_row
flat_length n s k row = block_length (λ i q. hull_in n row q i) s 0 k

pub flat_at : (n s k : ℕ) (row : List (List (PackedHull n))) (t j : ℕ) → t < s → j < k → get_or (flat_row n s k row) (j * s + t) none ≡ hull_in n row t j
unfolding flat_row
flat_at n s k row t j lt less = block_at (λ i q. hull_in n row q i) s 0 k j t less lt ∙ ap (hull_in n row t) (let e : 0 + j ≡ j = omega arith in e)
