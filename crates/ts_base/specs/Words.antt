-- Strict lines and words: each line ends with one LF, and its words stand between single spaces.
use Rattle.std.specs.Prelude.{ℕ, ◌+◌, ◌==◌, Bool, List, [], ◌∷◌, ◌++◌, length, if◌then◌else◌, Option, Some, None}
use Rattle.std.specs.Borrow.{Bor}
use Rattle.std.specs.Option.{option_map}
use Rattle.ts_base.specs.declared.words.Words.{Words as CutWords}

unfoldable pub is_lf : ℕ → Bool
is_lf b = b == 10

unfoldable pub is_space : ℕ → Bool
is_space b = b == 32

-- the byte joins the first line, or is the only one of it
abbrev pub onto_line : ℕ → List (List ℕ) → List (List ℕ)
onto_line b [] = (b ∷ []) ∷ []
onto_line b (line ∷ lines) = (b ∷ line) ∷ lines

-- the lines of a text, each with its LF; bytes after the last LF are a line without one
abbrev pub strict_lines : List ℕ → List (List ℕ)
strict_lines [] = []
strict_lines (b ∷ bs) = if is_lf b then (b ∷ []) ∷ strict_lines bs else onto_line b (strict_lines bs)

-- what stands before the LF at the end, if one stands there
abbrev pub without_lf : List ℕ → Option (List ℕ)
without_lf [] = None
without_lf (b ∷ []) = if b == 10 then Some [] else None
without_lf (b ∷ c ∷ bs) = option_map (λ (line : List ℕ). b ∷ line) (without_lf (c ∷ bs))

-- the words of a line: at least one, and each may be empty
pub record Words : Type 0 where
  pub first : List ℕ
  pub more : List (List ℕ)

abbrev pub all_words : Words → List (List ℕ)
all_words w = w.first ∷ w.more

-- a space before these words: the first is empty
abbrev pub after_space : Words → Words
after_space w = record { first = []; more = all_words w }

-- the byte joins the first word
abbrev pub onto_word : ℕ → Words → Words
onto_word b w = record { first = b ∷ w.first; more = w.more }

-- each space ends a word
abbrev pub words_of : List ℕ → Words
words_of [] = record { first = []; more = [] }
words_of (b ∷ bs) = if is_space b then after_space (words_of bs) else onto_word b (words_of bs)

-- words with a space before each
abbrev pub behind : List (List ℕ) → List ℕ
behind [] = []
behind (w ∷ ws) = 32 ∷ (w ++ behind ws)

-- the line of these words, without its LF
abbrev pub plain_line : Words → List ℕ
plain_line w = w.first ++ behind w.more

-- the line of these words, with its LF
abbrev pub full_line : Words → List ℕ
full_line w = w.first ++ behind w.more ++ (10 ∷ [])

-- the words that are held in the bytes after the first word
abbrev pub more_seen : Option (Bor (List ℕ)) → List (List ℕ)
more_seen None = []
more_seen (Some rest) = all_words (words_of rest.now)

-- the words of a line as lists of bytes
abbrev pub words_seen : CutWords → Words
words_seen w = record { first = w.first.now; more = more_seen w.rest }

-- how much is left to read: the bytes after the first word and the space before them
abbrev pub left_of : Option (Bor (List ℕ)) → ℕ
left_of None = 0
left_of (Some rest) = length rest.now + 1
