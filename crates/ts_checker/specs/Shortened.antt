-- The unfinished line of a certificate, and the few bytes that may be kept in its place.
use Rattle.std.specs.Prelude.{◌≡◌, ◌⊎◌, ◌<◌, ◌≤◌, ◌^◌, ℕ, zero, suc, codes, ℤ, List, [], ◌∷◌, ◌++◌, length}
use Rattle.std.specs.Prelude.{if◌then◌else◌, nat_le, is_some, Option, Some, None, Result, Ok, Err}
use Rattle.std.specs.Str.{bytes_eq}
use Rattle.ts_base.specs.Limits.{most_cells}
use Rattle.ts_base.specs.Words.{Words, words_of}
use Rattle.ts_certificate.specs.declared.state.State.{State}
use Rattle.ts_certificate.specs.declared.stop.LineStop.{LineStop}
use Rattle.ts_certificate.specs.declared.stop.LineStop.TheVariants.{Grammar}
use Rattle.ts_certificate.specs.Grammar.{CertLine, SaysSeries}
use Rattle.ts_certificate.specs.LineOf.{line_of_words}
use Rattle.ts_certificate.specs.Ranges.{value_of}
use Rattle.ts_certificate.specs.Reading.{tree_lines}

-- both are series of more numbers than a model has cells
pub record AreLong (kept line : Result CertLine LineStop) : Type 0 where
  pub few : List ℤ
  pub all : List ℤ
  pub kept_is : kept ≡ Ok (SaysSeries few)
  pub line_is : line ≡ Ok (SaysSeries all)
  pub kept_long : most_cells < length few
  pub line_long : most_cells < length all

-- both are against the grammar, or series of more numbers than a model has cells
abbrev pub AreAlike : Result CertLine LineStop → Result CertLine LineStop → Type 0
AreAlike kept line = ((kept ≡ Err Grammar) × (line ≡ Err Grammar)) ⊎ AreLong kept line

-- wherever a certificate stands, the two lines, given without their LF, are judged alike
abbrev pub ReadAlike : List ℕ → List ℕ → Type 0
ReadAlike kept line =
    (s : State) → tree_lines s < 2 ^ 63 → AreAlike (line_of_words s (words_of kept)) (line_of_words s (words_of line))

-- whatever follows both of them, the line and the kept bytes are judged alike
pub record Shortens (line kept : List ℕ) : Type 0 where
  pub some : 0 < length line
  pub left : 0 < length kept
  pub alike : (more : List ℕ) → ReadAlike (kept ++ more) (line ++ more)

-- these bytes are kept of an unfinished line: all, or few that are judged as they are
abbrev pub IsKeptOf : List ℕ → List ℕ → Type 0
IsKeptOf kept line = (kept ≡ line) ⊎ Shortens line kept

-- no more bytes than the longest line that is kept whole
abbrev pub IsSmall : List ℕ → Type 0
IsSmall kept = length kept ≤ 4615

-- what is kept of a line, once more bytes of the line have come
abbrev pub Extends : List ℕ → List ℕ → List ℕ → Type 0
Extends old part new = (line : List ℕ) → IsKeptOf old line → IsKeptOf new (line ++ part)

-- the last of some words, where it is no longer than a number of a series, and all before it are such numbers
abbrev pub open_word : List ℕ → List (List ℕ) → Option (List ℕ)
open_word w [] = if nat_le (length w) 8 then Some w else None
open_word w (v ∷ ws) = if is_some (value_of w) then open_word v ws else None

abbrev pub open_behind : List (List ℕ) → Option (List ℕ)
open_behind [] = None
open_behind (w ∷ ws) = open_word w ws

-- the number of a series line at which it may go on
abbrev pub open_number : Words → Option (List ℕ)
open_number w = if bytes_eq w.first (codes "series") then open_behind w.more else None

-- the number 0 n times, each before a space
abbrev pub zeros : ℕ → List ℕ
zeros zero = []
zeros (suc n) = 48 ∷ 32 ∷ zeros n

-- the beginning of a series line of n numbers
abbrev pub series_of_zeros : ℕ → List ℕ
series_of_zeros n = codes "series " ++ zeros n
