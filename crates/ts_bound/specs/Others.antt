-- Cells of a box that may not be as they were seen, and what they change in a window. Places count from 0.
use Rattle.std.specs.Prelude.{◌≡◌, ◌≢◌, ◌⊎◌, ℕ, ◌+◌, ◌-◌, ◌<◌, ◌≤◌, List, [], Contains, length, get_or, Option, Some, None}
use Rattle.std.specs.List.{All}
use Rattle.ts_domain.specs.Boxes.{Box}
use Rattle.ts_bound.specs.declared.gone.Change.{Change}
use Rattle.ts_bound.specs.declared.gone.Gone.{Gone}
use Rattle.ts_bound.specs.declared.gone.Other.{Other}
use Rattle.ts_bound.specs.Gone.{AreLost}

-- none of the others is at place i
abbrev pub IsElsewhere : List Other → ℕ → Type 0
IsElsewhere others i = All (λ o. o.at ≢ i) others

-- two boxes with as many cells differ in the others alone, and these have lost the values that are said to be gone
pub record AreOthers (others : List Other) (cells later : Box) : Type 0 where
  pub count : length later ≡ length cells
  pub within : All (λ o. o.at < length cells) others
  pub same : (i : ℕ) → IsElsewhere others i → get_or later i [] ≡ get_or cells i []
  pub lost : All (λ o. AreLost o.gone (get_or cells o.at []) (get_or later o.at [])) others

-- one of the others is at this place, and has lost these values
abbrev pub HasLost : List Other → ℕ → Option Gone → Type 0
HasLost others at gone = Contains others (record { at = at; gone = gone })

-- the change at the places from `from` up to `to` is that of these cells
pub record Covers (from to : ℕ) (others : List Other) (c : Change) : Type 0 where
  pub count : c.count ≡ to - from
  pub each : All (λ o. from ≤ o.at → o.at < to → (from + c.first ≤ o.at) × (o.at < from + c.last)) others
  pub first : HasLost others (from + c.first) c.gone_first
  pub last : HasLost others (from + c.last - 1) c.gone_last

-- the change, if there is one, is that of the others at the places from `from` up to `to`; else none of them is there
abbrev pub IsCovered : (from to : ℕ) → List Other → Option Change → Type 0
IsCovered from to others None = All (λ o. (o.at < from) ⊎ (to ≤ o.at)) others
IsCovered from to others (Some c) = Covers from to others c

-- the change with one more place, at which these values are lost
pub record IsWidened (c : Change) (place : ℕ) (gone : Option Gone) (w : Change) : Type 0 where
  pub count : w.count ≡ c.count
  pub from : (w.first ≤ c.first) × (w.first ≤ place)
  pub to : (c.last ≤ w.last) × (place < w.last)
  pub first : ((w.first ≡ c.first) × (w.gone_first ≡ c.gone_first)) ⊎ ((w.first ≡ place) × (w.gone_first ≡ gone))
  pub last : ((w.last ≡ c.last) × (w.gone_last ≡ c.gone_last)) ⊎ ((w.last ≡ place + 1) × (w.gone_last ≡ gone))
