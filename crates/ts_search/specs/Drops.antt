-- The drops of a box: the next one, and as many as are possible.
use Rattle.std.specs.Prelude.{ℕ, zero, suc, ℤ, Bool, cond, List, [], ◌∷◌, length}
use Rattle.std.specs.Prelude.{Option, Some, None, option_map, unwrap_or}
use Rattle.ts_model.specs.ModelParts.{ModelParts, total_of}
use Rattle.ts_filter.specs.declared.drops.Removal.{Removal}
use Rattle.ts_filter.specs.Boxes.{Box, values_at, without}
use Rattle.ts_filter.specs.RefutedWorseDrop.{Spans}
use Rattle.ts_filter.specs.Tests.{is_drop}

-- the least of n numbers from j on that passes the test
abbrev pub least : (ℕ → Bool) → ℕ → ℕ → Option ℕ
least test zero j = None
least test (suc n) j = cond (test j) (Some j) (least test n (suc j))

abbrev pub or_later : {A : Type 0} → Option A → Option A → Option A
or_later None later = later
or_later (Some first) later = Some first

-- the possible drop of value v with the least requirement
abbrev pub drop_of : ModelParts → Spans → Box → ℕ → ℤ → Option Removal
drop_of m s b k v =
    option_map (λ j. record { cell = k; value = v; require = j })
    (least (λ j. is_drop m.requirements s k v j b) (length m.requirements) 1)

-- the possible drop of the least of these values, which rise
abbrev pub drop_at : ModelParts → Spans → Box → ℕ → List ℤ → Option Removal
drop_at m s b k [] = None
drop_at m s b k (v ∷ values) = or_later (drop_of m s b k v) (drop_at m s b k values)

-- the possible drop in the least of n cells from k on
abbrev pub drop_from : ModelParts → Spans → Box → ℕ → ℕ → Option Removal
drop_from m s b zero k = None
drop_from m s b (suc n) k = or_later (drop_at m s b k (values_at k b)) (drop_from m s b n (suc k))

-- the possible drop with the least cell, then value, then requirement
abbrev pub next_drop : ModelParts → Spans → Box → Option Removal
next_drop m s b = drop_from m s b (length b) 1

-- the box after at most n drops
abbrev pub drops : ModelParts → Spans → ℕ → Box → Box
drops m s zero b = b
drops m s (suc n) b = unwrap_or (option_map (λ r. drops m s n (without r.cell r.value b)) (next_drop m s b)) b

-- the box after as many drops as are possible: each takes one of its values
abbrev pub after_drops : ModelParts → Spans → Box → Box
after_drops m s b = drops m s (total_of b) b
