-- The lists of numbers that stand for configurations, so that these are found by their hashes.
use Rattle.std.specs.Prelude.{◌≡◌, ℕ, ◌+◌, List, [], ◌∷◌, ◌++◌, Option, None, Some, map, slice_get}
use Rattle.ts_pattern.specs.declared.plan.Tag.{Tag}
use Rattle.ts_pattern.specs.declared.plan.Tag.TheVariants.{Young, Due, InD, InC, Loose}
use Rattle.ts_pattern.specs.declared.plan.Live.{Live}
use Rattle.ts_pattern.specs.declared.plan.Configuration.{Configuration}
use Rattle.ts_user.specs.declared.keys.Keys.{Keys}

abbrev pub tag_number : Tag → ℕ
tag_number Due = 0
tag_number InD = 1
tag_number InC = 2
tag_number Loose = 3
tag_number (Young signs) = signs + 4

abbrev pub entry_keys : List Live → List ℕ
entry_keys [] = []
entry_keys (e ∷ es) = e.residual ∷ tag_number e.tag ∷ entry_keys es

abbrev pub configuration_key : Configuration → List ℕ
configuration_key x = x.state ∷ entry_keys x.live.items

abbrev pub key_lists : Keys → List (List ℕ)
key_lists keys = map (λ v. v.items) keys.lists.keys

-- the key stood there at this place, or it didn't, and comes last
abbrev pub IsPlaced : List (List ℕ) → List (List ℕ) → List ℕ → Option ℕ → Type 0
IsPlaced old new key (Some i) = (new ≡ old) × (slice_get old i ≡ Some key)
IsPlaced old new key None = (new ≡ old ++ key ∷ []) × ((i : ℕ) → slice_get old i ≡ Some key → ⊥)
