-- The drop that comes first.
use Rattle.std.specs.Prelude.{◌≡◌, ◌⊎◌, ◌≤◌, ◌<◌, ◌<ℤ◌, List, Option, Some, None}
use Rattle.ts_model.specs.declared.model.Require.{Require}
use Rattle.ts_filter.specs.declared.drops.Removal.{Removal}
use Rattle.ts_filter.specs.Boxes.{Box}
use Rattle.ts_filter.specs.RefutedWorseDrop.{Spans, IsDrop}

-- a value may be dropped by a requirement
abbrev pub MayDrop : List Require → Spans → Box → Removal → Type 0
MayDrop requirements s b r = IsDrop requirements s r.cell r.value r.require b

-- r doesn't come after t: by the cell, then by the value, then by the requirement
abbrev pub IsNoLater : Removal → Removal → Type 0
IsNoLater r t =
    (r.cell < t.cell)
    ⊎ ((r.cell ≡ t.cell) × ((r.value <ℤ t.value) ⊎ ((r.value ≡ t.value) × (r.require ≤ t.require))))

-- the first of the removals that have a property; none where none has it
abbrev pub IsFirstOf : (Removal → Type 0) → Option Removal → Type 0
IsFirstOf Is None = (t : Removal) → Is t → ⊥
IsFirstOf Is (Some r) = Is r × ((t : Removal) → Is t → IsNoLater r t)

-- the first of all possible drops; none where none is possible
abbrev pub IsFirstDrop : List Require → Spans → Box → Option Removal → Type 0
IsFirstDrop requirements s b found = IsFirstOf (MayDrop requirements s b) found
