-- The only word of a line.
use Rattle.std.specs.Prelude.{ℕ, ◌≡◌, true, false, List, [], ◌∷◌}
use Rattle.ts_token.specs.Text.{Piece, is_skipped, is_text, words_of}
use Rattle.ts_token.specs.declared.single.Single.{Single}
use Rattle.ts_token.specs.declared.single.Single.TheVariants.{NotText, Skipped, Word, More}

-- two words or more
abbrev pub AreMore : List Piece → Type 0
AreMore words = (word other : Piece) × (more : List Piece) × (words ≡ word ∷ other ∷ more)

-- a line without its end is so
abbrev pub IsSingle : Single → List ℕ → Type 0
IsSingle NotText line = is_text line ≡ false
IsSingle Skipped line = (is_text line ≡ true) × (is_skipped (words_of line) ≡ true)
IsSingle (Word text) line =
    (is_text line ≡ true) × (is_skipped (words_of line) ≡ false)
    × (column : ℕ) × (words_of line ≡ record { text = text.now; column = column } ∷ [])
IsSingle More line = (is_text line ≡ true) × (is_skipped (words_of line) ≡ false) × AreMore (words_of line)
