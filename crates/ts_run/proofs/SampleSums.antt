-- The sum of a series, cell by cell, and the lines of a tree that were checked, line by line.
use Rattle.std.proofs.Common.{◌≡◌, ℕ, zero, suc, ◌+◌, ◌*◌, ◌<◌, ◌≤◌, ℤ, ◌+ℤ◌, FitsSigned, w64, List, [], ◌∷◌, length, drop, drop-cons, get_or, ◌∙◌, ap, arith}
use Rattle.std.proofs.lemmas.Int.{fits_signed_from_abs, ints}
use Rattle.std.specs.Prelude.{unsigned_abs}
use Rattle.ts_base.specs.Limits.{IsCellValue}
use Rattle.ts_automaton.specs.AutomatonRun.{AreCellValues}
use Rattle.ts_run.specs.Sample.{sum_of}

pub cell_at : (xs : List ℤ) (k : ℕ) (d : ℤ) → k < length xs → AreCellValues xs → IsCellValue (get_or xs k d)
cell_at [] k d less h = absurd (omega (arith, less))
cell_at (x ∷ xs) zero d less h = h.0
cell_at (x ∷ xs) (suc k) d less h = cell_at xs k d (omega (arith, less)) h.1

abs_cell : (v : ℤ) → IsCellValue v → unsigned_abs v ≤ 1000000
abs_cell v h = let a = h.0 in let b = h.1 in omega (arith, ints, a, b)

abs_sum : (x y : ℤ) → unsigned_abs (x +ℤ y) ≤ unsigned_abs x + unsigned_abs y
abs_sum x y = omega (arith, ints)

pub size_more : (k : ℕ) (sum v : ℤ) → unsigned_abs sum ≤ k * 1000000 → IsCellValue v → unsigned_abs (sum +ℤ v) ≤ (k + 1) * 1000000
size_more k sum v size cell =
    let both = abs_sum sum v in
    let one = abs_cell v cell in
    omega (arith, both, one, size)

pub sum_fits : (k : ℕ) (sum v : ℤ) → k < 512 → unsigned_abs sum ≤ k * 1000000 → IsCellValue v → FitsSigned w64 (sum +ℤ v)
sum_fits k sum v few size cell =
    let more = size_more k sum v size cell in
    fits_signed_from_abs w64 (sum +ℤ v) (let small : unsigned_abs (sum +ℤ v) < 9223372036854775808 = omega (arith, more, few) in small)

pub sum_more : (xs : List ℤ) (k : ℕ) (d sum : ℤ) → k < length xs → sum +ℤ sum_of (drop k xs) ≡ sum_of xs →
    (sum +ℤ get_or xs k d) +ℤ sum_of (drop (k + 1) xs) ≡ sum_of xs
sum_more xs k d sum less so_far =
    let next : k + 1 ≡ suc k = omega arith in
    let cut = ap sum_of (drop-cons xs k d less) in
    ap (λ (i : ℕ). (sum +ℤ get_or xs k d) +ℤ sum_of (drop i xs)) next
    ∙ (let e : (sum +ℤ get_or xs k d) +ℤ sum_of (drop (suc k) xs) ≡ sum_of xs = omega (arith, ints, cut, so_far) in e)
