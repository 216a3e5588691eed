-- A transducer finds the occurrences of a pattern (Global Constraint Catalog, Volume II): for every signature it
-- decodes the e-ranges of the occurrences, in their order, and no others.
use Rattle.std.specs.Prelude.{◌≡◌, ℕ, List}
use Rattle.ts_base.specs.declared.letter.Letter.{Letter}
use Rattle.ts_regex.specs.Shape.{Shape}
use Rattle.ts_transducer.specs.declared.row.Row.{Row}
use Rattle.ts_transducer.specs.Decode.{decode}
use Rattle.ts_pattern.specs.AllOccurrences.{occurrence_ranges}

-- rows, expression, trims before and after
abbrev pub IsValid : List Row → Shape → ℕ → ℕ → Type 0
IsValid rows p b a = (w : List Letter) → decode rows a w ≡ occurrence_ranges p b a w
