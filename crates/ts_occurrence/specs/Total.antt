-- A total with one more number, and how large totals are.
use Rattle.std.specs.Prelude.{ℕ, ℤ, pos, neg_ℤ, ◌≤ℤ◌, Option, None, Some}

abbrev pub IsWithin : ℕ → ℤ → Type 0
IsWithin n x = (neg_ℤ (pos n) ≤ℤ x) × (x ≤ℤ pos n)

-- x joined to the total; x alone where there is none
abbrev pub with_one : (ℤ → ℤ → ℤ) → Option ℤ → ℤ → ℤ
with_one op None x = x
with_one op (Some total) x = op total x
