-- How the trail keeps the waiting boxes: an upper side is the place of its box on the trail, a cell and a number.
use Rattle.std.specs.Prelude.{◌≢◌, ℕ, ◌+◌, ◌<◌, Bool, true, false, List, [], ◌∷◌, length, get_or}
use Rattle.ts_domain.specs.BoxSeries.{Boxes, all_boxes}
use Rattle.ts_domain.specs.Kept.{values_above}
use Rattle.ts_filter.specs.Boxes.{Box, HasCell, values_at, high_side}
use Rattle.ts_frontier.specs.Waiting.{Waiting}
use Rattle.ts_frontier.specs.declared.frontier.Upper.{Upper}

-- the upper side that an entry stands for, over the boxes of the trail
abbrev pub upper_side : List Box → Upper → Box
upper_side boxes u = high_side u.cell u.above (get_or boxes u.mark [])

-- the upper sides that all entries stand for, that of the newest first
unfoldable pub upper_sides : List Box → List Upper → List Box
upper_sides boxes [] = []
upper_sides boxes (u ∷ us) = upper_side boxes u ∷ upper_sides boxes us

-- the waiting boxes, the newest entry first
unfoldable pub boxes_of : Boxes → Bool → List Upper → List Box
boxes_of b true us = b.present ∷ upper_sides (all_boxes b) us
boxes_of b false us = upper_sides (all_boxes b) us

abbrev pub waiting_of : Boxes → Bool → List Upper → Waiting
waiting_of b ready us = record { ready = ready; boxes = boxes_of b ready us }

-- the marks fall from the newest entry on, all below `top`, and each upper side has a value
unfoldable pub UppersBelow : ℕ → List Box → List Upper → Type 0
UppersBelow top boxes [] = Unit {0}
UppersBelow top boxes (u ∷ us) =
    (u.mark < top) × HasCell u.cell (get_or boxes u.mark [])
    × (values_above u.above (values_at u.cell (get_or boxes u.mark [])) ≢ [])
    × UppersBelow u.mark boxes us

-- the place on the trail that all marks are below
abbrev pub top_of : Boxes → Bool → ℕ
top_of b true = length b.earlier
top_of b false = length b.earlier + 1

abbrev pub UppersFit : Boxes → Bool → List Upper → Type 0
UppersFit b ready us = UppersBelow (top_of b ready) (all_boxes b) us
