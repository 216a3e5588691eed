-- When trims fit a pattern: no word is shorter than both together.
use Rattle.std.specs.Prelude.{ℕ, ◌+◌, ◌≤◌, ◌<◌, List, length}
use Rattle.ts_base.specs.declared.letter.Letter.{Letter}
use Rattle.ts_regex.specs.Shape.{Shape}
use Rattle.ts_regex.specs.Language.{InLanguage}

-- each word of at least one letter has at least b + a
abbrev pub FitsTrims : Shape → ℕ → ℕ → Type 0
FitsTrims p b a = (w : List Letter) → InLanguage p w → 0 < length w → b + a ≤ length w

-- each word has at least b + a letters, and at least one
abbrev pub HasLongWords : Shape → ℕ → ℕ → Type 0
HasLongWords p b a = (w : List Letter) → InLanguage p w → (b + a ≤ length w) × (1 ≤ length w)
