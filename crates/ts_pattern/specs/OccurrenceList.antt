-- All the occurrences of an expression in a signature, by rising start, and the cells that they leave
-- (Global Constraint Catalog, Volume II: the e-occurrences of a pattern).
use Rattle.std.specs.Prelude.{◌≡◌, ℕ, ◌+◌, ◌-◌, ◌≤◌, List, [], ◌∷◌, map}
use Rattle.ts_base.specs.declared.letter.Letter.{Letter}
use Rattle.ts_base.specs.declared.range.Range.{Range}
use Rattle.ts_regex.specs.Shape.{Shape}
use Rattle.ts_pattern.specs.Occurrences.{IsOccurrence}
use Rattle.ts_pattern.specs.EachOf.{OneOf}
use Rattle.std.specs.List.{AllByRecursion}

-- the signs start+1 to end, counted from 1
pub record Place : Type 0 where
  pub start : ℕ
  pub end : ℕ

-- each starts after the one before
abbrev pub RisingPlaces : ℕ → List Place → Type 0
RisingPlaces low [] = Unit {0}
RisingPlaces low (x ∷ xs) = (low ≤ x.start) × RisingPlaces (x.start + 1) xs

abbrev pub IsPlace : ℕ → ℕ → Place → Type 0
IsPlace s e x = (x.start ≡ s) × (x.end ≡ e)

-- these are the occurrences, and there are no others
pub record AreOccurrences (p : Shape) (w : List Letter) (places : List Place) : Type 0 where
  pub rising : RisingPlaces 0 places
  pub each : AllByRecursion (λ x. IsOccurrence p w x.start x.end) places
  pub all : (s e : ℕ) → IsOccurrence p w s e → OneOf (IsPlace s e) places

-- the cells of an occurrence, counted from 1, without the b first and the a last of its signs' cells
abbrev pub e_range : ℕ → ℕ → Place → Range
e_range b a x = record { first = x.start + 1 + b; last = x.end + 1 - a }

-- the e-ranges of the occurrences, by rising start
abbrev pub AreRanges : Shape → ℕ → ℕ → List Letter → List Range → Type 0
AreRanges p b a w ranges =
    (places : List Place) × AreOccurrences p w places × (ranges ≡ map (λ x. e_range b a x) places)
