-- Residuals are numbered in the order in which they first stand: the whole pattern first, then configurations in their
-- order, and the entries of each in theirs. Each has one number.
use Rattle.std.specs.Prelude.{◌≡◌, ◌⊎◌, ℕ, ◌+◌, ◌<◌, List, [], ◌∷◌, ◌++◌, map, length}
use Rattle.ts_regex.specs.Shape.{Shape, shape_of}
use Rattle.ts_pattern.specs.declared.plan.Live.{Live}
use Rattle.ts_pattern.specs.declared.plan.Configuration.{Configuration}
use Rattle.ts_pattern.specs.declared.plan.Plan.{Plan}
use Rattle.ts_pattern.specs.Plans.{shape_at}

-- where n numbers have stood before, each of these is one that has stood, or the next new one; at the end `all` have
abbrev pub AreNumbered : ℕ → List ℕ → ℕ → Type 0
AreNumbered n [] all = n ≡ all
AreNumbered n (i ∷ is) all = ((i < n) × AreNumbered n is all) ⊎ ((i ≡ n) × AreNumbered (n + 1) is all)

abbrev pub live_numbers : List Live → List ℕ
live_numbers es = map (λ e. e.residual) es

abbrev pub entry_numbers : List Configuration → List ℕ
entry_numbers [] = []
entry_numbers (x ∷ xs) = live_numbers x.live.items ++ entry_numbers xs

abbrev pub IsNumbered : Plan → Type 0
IsNumbered plan = AreNumbered 1 (entry_numbers plan.configurations.items) (length plan.residuals.items)

-- no two of them are the same
abbrev pub AreDifferent : List Shape → Type 0
AreDifferent rs = (i j : ℕ) → i < length rs → j < length rs → shape_at rs i ≡ shape_at rs j → i ≡ j

abbrev pub HasResidualsOnce : Plan → Type 0
HasResidualsOnce plan = AreDifferent (map (λ r. shape_of r) plan.residuals.items)
