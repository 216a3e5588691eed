-- The cells that are looked at: how many they are, and what holds of each.
use Rattle.std.proofs.Common.{◌≡◌, ℕ, zero, suc, ◌-◌, ◌≤◌, Option, Some, None, List, [], ◌∷◌, length, take, drop, arith, length-drop}
use Rattle.std.specs.List.{All, AllByRecursion}
use Rattle.std.proofs.lemmas.List.{length-take-le}
use Rattle.std.proofs.lemmas.List.Elements.{All-take, All-drop}
use Rattle.ts_base.specs.declared.range.Range.{Range}
use Rattle.ts_base.specs.Windows.{IsInside, LooksInside, cells_of, looked_at}

pub cells_count : {A : Type 0} (r : Range) (xs : List A) → IsInside (length xs) r → length (cells_of r xs) ≡ r.last - (r.first - 1)
cells_count r xs h =
    let first = h.0 in
    let last = h.2 in
    let d = length-drop (r.first - 1) xs in
    length-take-le (r.last - (r.first - 1)) (drop (r.first - 1) xs) (omega arith)

pub some_looked : {A : Type 0} (w : Option Range) (xs : List A) → 1 ≤ length xs → LooksInside (length xs) w → 1 ≤ length (looked_at w xs)
some_looked None xs some h = some
some_looked (Some r) xs some h = let n = cells_count r xs h in let first = h.0 in let order = h.1 in omega (arith, n, first, order)

pub few_looked : {A : Type 0} (w : Option Range) (xs : List A) → LooksInside (length xs) w → length (looked_at w xs) ≤ length xs
few_looked None xs h = omega arith
few_looked (Some r) xs h = let n = cells_count r xs h in let last = h.2 in omega (arith, n, last)

-- what holds of each cell of a series holds of each of these, in either form

pub all_looked : {A : Type 0} (P : A → Type 0) (w : Option Range) (xs : List A) → All P xs → All P (looked_at w xs)
all_looked P None xs h = h
all_looked P (Some r) xs h = All-take P (r.last - (r.first - 1)) (drop (r.first - 1) xs) (All-drop P (r.first - 1) xs h)

each_taken : {A : Type 0} (P : A → Type 0) (n : ℕ) (xs : List A) → AllByRecursion P xs → AllByRecursion P (take n xs)
each_taken P zero xs h = tt
each_taken P (suc n) [] h = tt
each_taken P (suc n) (x ∷ xs) h = (h.0, each_taken P n xs h.1)

each_dropped : {A : Type 0} (P : A → Type 0) (n : ℕ) (xs : List A) → AllByRecursion P xs → AllByRecursion P (drop n xs)
each_dropped P zero xs h = h
each_dropped P (suc n) [] h = tt
each_dropped P (suc n) (x ∷ xs) h = each_dropped P n xs h.1

pub each_looked : {A : Type 0} (P : A → Type 0) (w : Option Range) (xs : List A) → AllByRecursion P xs → AllByRecursion P (looked_at w xs)
each_looked P None xs h = h
each_looked P (Some r) xs h = each_taken P (r.last - (r.first - 1)) (drop (r.first - 1) xs) (each_dropped P (r.first - 1) xs h)

-- a window in a series lies in a longer one

pub inside_longer : (n more : ℕ) (w : Option Range) → n ≤ more → LooksInside n w → LooksInside more w
inside_longer n more None h inside = tt
inside_longer n more (Some r) h inside = let last = inside.2 in (inside.0, inside.1, omega (arith, last, h))
