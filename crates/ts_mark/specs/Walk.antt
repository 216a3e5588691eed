-- The ranges that hold a cell, where both ends rise: those from the first that doesn't end before it to the last that
-- doesn't begin after it.
use Rattle.std.specs.Prelude.{ℕ, zero, suc, ◌+◌, Bool, List, [], ◌∷◌, nat_le, nat_lt, if◌then◌else◌}
use Rattle.ts_base.specs.declared.range.Range.{Range}

-- how many ranges of the test there are before the first other one
abbrev pub leading : (Range → Bool) → List Range → ℕ
leading test [] = 0
leading test (r ∷ rs) = if test r then suc (leading test rs) else 0

-- how many ranges end before the cell, from the first range on
abbrev pub ended : ℕ → List Range → ℕ
ended cell ranges = leading (λ r. nat_lt r.last cell) ranges

-- how many begin at the cell or before it
abbrev pub begun : ℕ → List Range → ℕ
begun cell ranges = leading (λ r. nat_le r.first cell) ranges

-- so many numbers from n on
abbrev pub counted : ℕ → ℕ → List ℕ
counted n zero = []
counted n (suc left) = n ∷ counted (n + 1) left
