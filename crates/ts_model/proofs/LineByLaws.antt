-- A text read line by line is read as it is at once.
use Rattle.std.proofs.Common.{◌≡◌, ℕ, ◌+◌, Bool, true, false, cond, Option, Some, None, Ok, Err, List, [], ◌∷◌, ◌++◌, length, refl, sym, ap, ◌∙◌, arith}
use Rattle.std.specs.Prelude.{Result}
use Rattle.std.proofs.lemmas.List.{length_push}
use Rattle.ts_token.specs.Gist.{heads, gist, without_end, AreEnded, IsLine, StandsFor}
use Rattle.ts_token.specs.Text.{Piece, Row, is_text, is_skipped, lines_of, words_of, row_onto, rows_from, not_text_from, cut_of}
use Rattle.ts_token.proofs.GistLaws.{same_gist}
use Rattle.ts_model.specs.declared.error.ModelKind.{ModelKind}
use Rattle.ts_model.specs.declared.error.ModelKind.TheVariants.{NotText}
use Rattle.ts_model.specs.declared.error.ModelStop.TheVariants.{Refused}
use Rattle.ts_model.specs.declared.model.Need.{Need}
use Rattle.ts_model.specs.LineByLine.{line_step, SoFar, HasRead, ReadsLine}
use Rattle.ts_model.specs.ModelReading.{needs_lists, texts_of, line_gives, onward, read_rows, then_on, unless_bad, lines_from, lines_reading}
use Rattle.ts_model.specs.ModelParts.{ModelParts, nothing}
use Rattle.ts_model.proofs.LongWords.{heads_give}

-- rows, and the first line after them that isn't text; and so of more lines, whose reading goes on after these
module _ (lists : Bool) (rows longer : List Row) (bad worse : Option ℕ) (next : ModelParts → Result ModelParts (ℕ × ModelKind))
    (later : (m : ModelParts) → then_on (read_rows lists m longer) (unless_bad worse) ≡ then_on (then_on (read_rows lists m rows) (unless_bad bad)) next)
    (number : ℕ) where
  after_gives : (g : Result ModelParts ModelKind) → then_on (onward number g (λ a. read_rows lists a longer)) (unless_bad worse)
      ≡ then_on (then_on (onward number g (λ a. read_rows lists a rows)) (unless_bad bad)) next
  after_gives (Err kind) = refl
  after_gives (Ok a) = later a

  after_words : (m : ModelParts) (ws : List Piece) (t : Bool) →
      then_on (read_rows lists m (cond t longer (record { number = number; words = ws } ∷ longer))) (unless_bad worse)
      ≡ then_on (then_on (read_rows lists m (cond t rows (record { number = number; words = ws } ∷ rows))) (unless_bad bad)) next
  after_words m ws true = later m
  after_words m ws false = after_gives (line_gives lists m (texts_of ws))

  after_line : (m : ModelParts) (ws : List Piece) (t : Bool) →
      then_on (read_rows lists m (cond t (row_onto number ws longer) [])) (unless_bad (cond t worse (Some number)))
      ≡ then_on (then_on (read_rows lists m (cond t (row_onto number ws rows) [])) (unless_bad (cond t bad (Some number)))) next
  after_line m ws true = after_words m ws (is_skipped ws)
  after_line m ws false = refl

no_more : (n : ℕ) → n + length {A = List ℕ} [] ≡ n
no_more n = omega arith

shifted : (n : ℕ) (line : List ℕ) (lines : List (List ℕ)) → n + 1 + length lines ≡ n + length (line ∷ lines)
shifted n line lines = omega arith

-- one line after others, the first of which has this number
more_lines : (need : Need) (n : ℕ) (m : ModelParts) (lines : List (List ℕ)) (line : List ℕ) →
    lines_from need n m (lines ++ line ∷ []) ≡ then_on (lines_from need n m lines) (λ a. line_step need (n + length lines) a line)
more_lines need n m [] line = ap (λ (k : ℕ). line_step need k m line) (sym (no_more n))
more_lines need n m (x ∷ xs) line =
    after_line (needs_lists need) (rows_from (n + 1) xs) (rows_from (n + 1) (xs ++ line ∷ [])) (not_text_from (n + 1) xs)
    (not_text_from (n + 1) (xs ++ line ∷ [])) (λ a. line_step need (n + length (x ∷ xs)) a line)
    (λ a.
    more_lines need (n + 1) a xs line
    ∙ ap (λ (k : ℕ). then_on (lines_from need (n + 1) a xs) (λ b. line_step need k b line)) (shifted n x xs))
    n m (words_of x) (is_text x)

-- what a line gives, by what its reader may ask of it
abbrev gist_gives : Need → ℕ → ModelParts → Option (List (List ℕ)) → Result ModelParts (ℕ × ModelKind)
gist_gives need number m None = Err (number, NotText)
gist_gives need number m (Some []) = Ok m
gist_gives need number m (Some (h ∷ hs)) = onward number (line_gives (needs_lists need) m (h ∷ hs)) Ok

-- after the only line of words nothing is left to read
pub one_row : (number : ℕ) (g : Result ModelParts ModelKind) → then_on (onward number g (λ a. Ok a)) (unless_bad None) ≡ onward number g Ok
one_row number (Err kind) = refl
one_row number (Ok after) = refl

by_words : (need : Need) (number : ℕ) (m : ModelParts) (ws : List Piece) →
    then_on (read_rows (needs_lists need) m (row_onto number ws [])) (unless_bad None)
    ≡ gist_gives need number m (Some (cond (is_skipped ws) [] (heads ws)))
by_words need number m [] = refl
by_words need number m (w ∷ ws) = go (is_skipped (w ∷ ws)) where
  go : (t : Bool) → then_on (read_rows (needs_lists need) m (cond t [] (record { number = number; words = w ∷ ws } ∷ []))) (unless_bad None)
      ≡ gist_gives need number m (Some (cond t [] (heads (w ∷ ws))))
  go true = refl
  go false = one_row number (line_gives (needs_lists need) m (texts_of (w ∷ ws))) ∙ ap (λ g. onward number g Ok) (heads_give (needs_lists need) m (w ∷ ws))

by_gist : (need : Need) (number : ℕ) (m : ModelParts) (line : List ℕ) → line_step need number m line ≡ gist_gives need number m (gist line)
by_gist need number m line = go (is_text line) where
  go : (t : Bool) → then_on (read_rows (needs_lists need) m (cond t (row_onto number (words_of line) []) [])) (unless_bad (cond t None (Some number)))
      ≡ gist_gives need number m (cond t (Some (cond (is_skipped (words_of line)) [] (heads (words_of line)))) None)
  go true = by_words need number m (words_of line)
  go false = refl

-- a line gives what bytes give that stand for it
same_step : (need : Need) (number : ℕ) (m : ModelParts) (given line : List ℕ) → StandsFor given line → IsLine line →
    line_step need number m (without_end line) ≡ line_step need number m (without_end given)
same_step need number m given line same is =
    by_gist need number m (without_end line) ∙ ap (gist_gives need number m) (sym (same_gist given line same is)) ∙
    sym (by_gist need number m (without_end given))

module _ (need : Need) (text line : List ℕ) (whole : AreEnded text) (is : IsLine line) where
  lines_more : lines_of (text ++ line) ≡ lines_of text ++ without_end line ∷ []
  lines_more = whole line ∙ ap (λ (x : List (List ℕ)). lines_of text ++ x) is

  -- one line more of a text
  one_more : lines_reading need (cut_of (text ++ line))
      ≡ then_on (lines_reading need (cut_of text)) (λ a. line_step need (1 + length (lines_of text)) a (without_end line))
  one_more = ap (lines_from need 1 nothing) lines_more ∙ more_lines need 1 nothing (lines_of text) (without_end line)

  count_more : (count : ℕ) → count ≡ length (lines_of text) → count + 1 ≡ length (lines_of (text ++ line))
  count_more count count_is =
      let longer = ap (λ (x : List (List ℕ)). length x) lines_more in
      let pushed = length_push (lines_of text) (without_end line) in omega (arith, count_is, longer, pushed)

next_number : (count length : ℕ) → count ≡ length → 1 + length ≡ count + 1
next_number count length is = omega (arith, is)

-- what the line gives after those that were read
step_is : (old : SoFar) (given : List ℕ) (gives : Result ModelParts (ℕ × ModelKind)) → line_step old.need (old.count + 1) old.stated (without_end given)
    ≡ gives →
    (need : Need) (text line : List ℕ) → AreEnded text → IsLine line → StandsFor given line → HasRead need text (Ok old) →
    lines_reading need (cut_of (text ++ line)) ≡ gives
step_is old given gives step need text line whole is same has =
    one_more need text line whole is
    ∙ ap (λ r. then_on r (λ a. line_step need (1 + length (lines_of text)) a (without_end line))) has.2
    ∙ ap (λ (k : ℕ). line_step need k old.stated (without_end line)) (next_number old.count (length (lines_of text)) has.1)
    ∙ same_step need (old.count + 1) old.stated given line same is
    ∙ ap (λ (n : Need). line_step n (old.count + 1) old.stated (without_end given)) (sym has.0) ∙ step

-- the line is taken
pub read_on : (old : SoFar) (given : List ℕ) (after : ModelParts) → line_step old.need (old.count + 1) old.stated (without_end given) ≡ Ok after →
    ReadsLine (Ok old) given (Ok (record { need = old.need; count = old.count + 1; stated = after }))
read_on old given after gives need text line whole is same has =
    (has.0, count_more need text line whole is old.count has.1, step_is old given (Ok after) gives need text line whole is same has)

-- the line is bad
pub read_bad : (old : SoFar) (given : List ℕ) (number : ℕ) (kind : ModelKind) →
    line_step old.need (old.count + 1) old.stated (without_end given) ≡ Err (number, kind) → ReadsLine (Ok old) given (Err (Refused number kind))
read_bad old given number kind gives need text line whole is same has = step_is old given (Err (number, kind)) gives need text line whole is same has

-- a line before was bad
pub still_bad : (given : List ℕ) (number : ℕ) (kind : ModelKind) → ReadsLine (Err (Refused number kind)) given (Err (Refused number kind))
still_bad given number kind need text line whole is same has =
    one_more need text line whole is
    ∙ ap (λ r. then_on r (λ a. line_step need (1 + length (lines_of text)) a (without_end line))) has

-- before the first line
pub none_read : (need : Need) → HasRead need [] (Ok (record { need = need; count = 0; stated = nothing }))
none_read need = (refl, refl, refl)
