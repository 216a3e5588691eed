-- What a line holds.
use Rattle.std.specs.Prelude.{ℕ, ◌≡◌, true, false, List}
use Rattle.ts_token.specs.declared.content.Content.{Content}
use Rattle.ts_token.specs.declared.content.Content.TheVariants.{NotText, Skipped, Words}
use Rattle.ts_token.specs.Text.{is_text, is_skipped, words_of}

-- a line without its end holds this
abbrev pub Holds : Content → List ℕ → Type 0
Holds NotText line = is_text line ≡ false
Holds Skipped line = (is_text line ≡ true) × (is_skipped (words_of line) ≡ true)
Holds (Words bytes) line = (is_text line ≡ true) × (is_skipped (words_of line) ≡ false) × (bytes.now ≡ line)
