-- The one series of a box, or the cell and the value at which it is split.
use Rattle.std.specs.Prelude.{ℕ, suc, ℤ, List, [], ◌∷◌}
use Rattle.ts_filter.specs.Boxes.{Box}
use Rattle.ts_frontier.specs.Halve.{middle_of}
use Rattle.ts_frontier.specs.declared.halve.Form.{Form as FoundForm}
use Rattle.ts_frontier.specs.declared.halve.Form.TheVariants.{Alone as FoundAlone, Wide as FoundWide}

-- the one series of a box; or its first cell with two or more values, and the lower middle one of them
pub data Form : Type 0 where
  Alone : List ℤ → Form
  Wide : ℕ → ℤ → Form

abbrev pub after_value : ℤ → Form → Form
after_value v (Alone x) = Alone (v ∷ x)
after_value v (Wide k t) = Wide (suc k) t

abbrev pub form : Box → Form
form [] = Alone []
form ([] ∷ b) = Alone []
form ((v ∷ []) ∷ b) = after_value v (form b)
form ((v ∷ u ∷ d) ∷ b) = Wide 1 (middle_of (v ∷ u ∷ d))

-- a form as the code has it
abbrev pub form_seen : FoundForm → Form
form_seen (FoundAlone x) = Alone x.items
form_seen (FoundWide h) = Wide h.cell h.at
