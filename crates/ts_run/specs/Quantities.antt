-- The numbers in the words of commands, each with its range.
use Rattle.std.specs.Prelude.{ℕ, ◌≤◌, ◌&&◌, ℤ, pos, negsuc, List, if◌then◌else◌, nat_le, Option, Some, None}
use Rattle.ts_token.specs.Number.{number_of}

-- the lines of the budget where none is given
abbrev pub usual_lines : ℕ
usual_lines = 100000

-- a number from least to most
abbrev pub IsWithin : ℕ → ℕ → ℕ → Type 0
IsWithin least most n = (least ≤ n) × (n ≤ most)

-- the number, where there is one and it is from least to most
abbrev pub kept_within : ℕ → ℕ → Option ℤ → Option ℕ
kept_within least most None = None
kept_within least most (Some (pos n)) = if nat_le least n && nat_le n most then Some n else None
kept_within least most (Some (negsuc n)) = None

-- the number that the word is, where it is one from least to most
abbrev pub number_within : ℕ → ℕ → List ℕ → Option ℕ
number_within least most word = kept_within least most (number_of word)
