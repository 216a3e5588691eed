-- The reading of a pattern text line by line, each line without its end.
use Rattle.std.specs.Prelude.{ℕ, ◌+◌, Bool, List, [], ◌∷◌, if◌then◌else◌, Result, Ok, Err}
use Rattle.ts_token.specs.Text.{is_text, is_skipped, words_of}
use Rattle.ts_user.specs.declared.user_stop.UserKind.{UserKind}
use Rattle.ts_user.specs.declared.user_stop.UserKind.TheVariants.{NotText}
use Rattle.ts_user.specs.Stated.{Stated, Described, ended_stated}
use Rattle.ts_user.specs.PatternReading.{texts_of, line_gives, onward, numbered}

-- what is stated after one line more, or the first kind that holds of it
abbrev pub line_after : Bool → Stated → List ℕ → Result Stated UserKind
line_after alone m line =
    if is_text line then (if is_skipped (words_of line) then Ok m else line_gives alone m (texts_of (words_of line)))
    else Err NotText

-- the reading of lines, where the `count` lines before them state m
abbrev pub lines_reading : Bool → ℕ → Stated → List (List ℕ) → Result Described (ℕ × UserKind)
lines_reading alone count m [] = numbered (count + 1) (ended_stated m)
lines_reading alone count m (line ∷ lines) =
    onward (count + 1) (line_after alone m line) (λ after. lines_reading alone (count + 1) after lines)
