-- Which line of readings is the first bad one, stated of all lines at once; `watch` reads them one by one (`Watch`).
use Rattle.std.specs.Prelude.{ℕ, ◌≡◌, ◌≤◌, ◌<◌, ◌+◌, ◌↔◌, ℤ, List, [], length, take, Option, Some, None, slice_get, unwrap_or}
use Rattle.std.specs.List.{flat_map}
use Rattle.ts_decorate.specs.Answers.{longest}
use Rattle.ts_token.specs.Text.{lines_of}
use Rattle.ts_run.specs.Watch.{line_gives, readings_of}

-- the readings of lines, of those that give some
abbrev pub readings_in : List (List ℕ) → List ℤ
readings_in lines = flat_map (λ line. unwrap_or (line_gives line) []) lines

-- a line that gives this after `count` readings is bad: nothing can be read of it, or a reading beyond the last that
-- may come
abbrev pub IsBadBehind : ℕ → Option (List ℤ) → Type 0
IsBadBehind count None = Unit {0}
IsBadBehind count (Some values) = (0 < length values) × (longest ≤ count)

-- the line at this place, counted from 0, is bad after those before it and `count` readings
abbrev pub IsBadAt : ℕ → List (List ℕ) → ℕ → Type 0
IsBadAt count lines i =
    (line : List ℕ) × (slice_get lines i ≡ Some line)
    × IsBadBehind (count + length (readings_in (take i lines))) (line_gives line)

-- the line at place i is the first bad one
pub record IsFirstBad (count : ℕ) (lines : List (List ℕ)) (i : ℕ) : Type 0 where
  pub bad : IsBadAt count lines i
  pub first : (j : ℕ) → j < i → IsBadAt count lines j → ⊥

-- the bad line that is named is the first, where there is one, and the readings are those of the lines before it, or of
-- all
pub record ReadsToFirstBad (text : List ℕ) : Type 0 where
  pub named : (i : ℕ) → ((readings_of text).bad ≡ Some (i + 1)) ↔ IsFirstBad 0 (lines_of text) i
  pub none : ((readings_of text).bad ≡ None) ↔ ((i : ℕ) → IsBadAt 0 (lines_of text) i → ⊥)
  pub before : (i : ℕ) → IsFirstBad 0 (lines_of text) i →
      (readings_of text).values ≡ readings_in (take i (lines_of text))
  pub all : (readings_of text).bad ≡ None → (readings_of text).values ≡ readings_in (lines_of text)

abbrev pub ReadingsEndAtFirstBad : Type 0
ReadingsEndAtFirstBad = (text : List ℕ) → ReadsToFirstBad text
