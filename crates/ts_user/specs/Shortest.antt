-- How short a word of an expression may be.
use Rattle.std.specs.Prelude.{◌≡◌, ◌⊎◌, ℕ, ◌+◌, ◌<◌, min, max, Bool, nat_lt, List, [], length}
use Rattle.ts_base.specs.declared.letter.Letter.{Letter}
use Rattle.ts_regex.specs.Shape.{Shape, Empty, Eps, One, Cat, Alt, Star}
use Rattle.ts_regex.specs.Language.{InLanguage}

-- the length of the shortest word; 3 where it is longer, or where there is none
abbrev pub short_length : Shape → ℕ
short_length Empty = 3
short_length Eps = 0
short_length (One l) = 1
short_length (Cat r s) = min 3 (short_length r + short_length s)
short_length (Alt r s) = min (short_length r) (short_length s)
short_length (Star r) = 0

-- some word has fewer letters than both trims together take, or none at all
abbrev pub has_short_word : Shape → ℕ → ℕ → Bool
has_short_word p b a = nat_lt (short_length p) (max 1 (b + a))

-- a word has fewer letters than both trims together take, or none
abbrev pub HasShortWord : Shape → ℕ → ℕ → Type 0
HasShortWord p b a = (w : List Letter) × InLanguage p w × ((length w < b + a) ⊎ (w ≡ []))
