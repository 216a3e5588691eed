-- What is kept of a line.
use Rattle.std.specs.Prelude.{ℕ, ◌+◌, ◌*◌, ◌≤◌, List, ◌++◌, length, take}
use Rattle.ts_token.specs.declared.short.ShortLine.{ShortLine}
use Rattle.ts_token.specs.Gist.{StandsFor}
use Rattle.ts_token.specs.Places.{IsAt, IsSmallAt}
use Rattle.ts_token.specs.Slices.{after_lf}
use Rattle.ts_token.specs.Text.{words_of}

-- what is kept stands for the line, whatever bytes come after both
pub record IsShort (line : List ℕ) (s : ShortLine) : Type 0 where
  pub stands : (more : List ℕ) → StandsFor (s.kept.items ++ more) (line ++ more)
  pub place : IsAt s.place s.kept.items
  pub small : IsSmallAt s.place line (length s.kept.items)
  pub few : length s.kept.items ≤ length line

-- no more bytes are kept of a line: 65 a word, where its LF counts as a byte of a word, and all after the LF
abbrev pub most_of : List ℕ → ℕ
most_of line = 65 * length (words_of line) + 4 + length (after_lf line)

-- whatever bytes came before, these have come too
abbrev pub TakesIn : ShortLine → List ℕ → ShortLine → Type 0
TakesIn old bytes new = (line : List ℕ) → IsShort line old → IsShort (line ++ bytes) new

-- some first bytes of these have come
abbrev pub TakesFirst : ShortLine → List ℕ → ShortLine → Type 0
TakesFirst old bytes new = (n : ℕ) × TakesIn old (take n bytes) new
