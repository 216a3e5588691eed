-- The lines of a pattern text, one by one.
use Rattle.std.proofs.Common.{◌≡◌, ℕ, suc, Bool, ◌+◌, ◌<◌, Ok, Err, List, [], ◌∷◌, length, drop, get_or, refl, sym, ap, subst, ◌∙◌, add-one}
use Rattle.std.specs.Prelude.{Result}
use Rattle.std.proofs.Math.Seq.{drop-cons}
use Rattle.ts_token.specs.declared.words.Word.{Word}
use Rattle.ts_token.specs.declared.tokens.Line.{Line}
use Rattle.ts_token.specs.Views.{pieces, rows}
use Rattle.ts_user.specs.declared.user_stop.UserKind.{UserKind}
use Rattle.ts_user.specs.declared.user_stop.LineStop.{LineStop}
use Rattle.ts_user.specs.declared.user_stop.LineStop.TheVariants.{Bad, NoMemory}
use Rattle.ts_user.specs.declared.user_stop.UserStop.{UserStop}
use Rattle.ts_user.specs.Stated.{Stated}
use Rattle.ts_user.specs.PatternReading.{texts_of, line_gives, onward, read_rows}
use Rattle.ts_user.specs.Views.{texts, at_line, Gives, Drafts}

-- the words of a row
pub texts_pieces : (ws : List Word) → texts_of (pieces ws) ≡ texts ws
texts_pieces [] = refl
texts_pieces (w ∷ ws) = ap (λ (x : List (List ℕ)). w.text.now ∷ x) (texts_pieces ws)

-- the rows from a line on
rows_at : (alone : Bool) (m : Stated) (lines : List Line) (i : ℕ) (line : Line) → i < length lines → line ≡ get_or lines i line →
    read_rows alone m (rows (drop i lines)) ≡ onward line.number (line_gives alone m (texts line.words.items))
    (λ after. read_rows alone after (rows (drop (i + 1) lines)))
rows_at alone m lines i line within is =
    ap (λ (x : List Line). read_rows alone m (rows x)) (drop-cons lines i line within)
    ∙ ap (λ (x : Line). read_rows alone m (rows (x ∷ drop (suc i) lines))) (sym is)
    ∙ ap (λ (x : List (List ℕ)). onward line.number (line_gives alone m x) (λ after. read_rows alone after (rows (drop (suc i) lines))))
    (texts_pieces line.words.items)
    ∙ ap (λ (n : ℕ). onward line.number (line_gives alone m (texts line.words.items)) (λ after. read_rows alone after (rows (drop n lines)))) (sym (add-one i))

-- no kind holds of the line
pub line_taken : (alone : Bool) (m after : Stated) (lines : List Line) (i : ℕ) (line : Line) (words : List Word) (all : Result Stated (ℕ × UserKind)) →
    i < length lines → line ≡ get_or lines i line → words ≡ line.words.items →
    line_gives alone m (texts words) ≡ Ok after → read_rows alone m (rows (drop i lines)) ≡ all → read_rows alone after (rows (drop (i + 1) lines)) ≡ all
line_taken alone m after lines i line words all within is words_is gives kept =
    let next : Result Stated UserKind → Result Stated (ℕ × UserKind) =
    λ r. onward line.number r (λ a. read_rows alone a (rows (drop (i + 1) lines))) in
    sym (ap next (ap (λ (x : List Word). line_gives alone m (texts x)) (sym words_is) ∙ gives)) ∙ sym (rows_at alone m lines i line within is) ∙ kept

-- a kind holds of the line, or memory ran out
pub line_stopped : (alone : Bool) (m after : Stated) (lines : List Line) (i : ℕ) (line : Line) (words : List Word) (stop : LineStop) (told : UserStop)
    (all : Result Stated (ℕ × UserKind)) → told ≡ at_line line.number stop → i < length lines → line ≡ get_or lines i line → words ≡ line.words.items →
    Gives {X = Unit {0}} (λ _. after) (Err stop) (line_gives alone m (texts words)) → read_rows alone m (rows (drop i lines)) ≡ all → Drafts (Err told) all
line_stopped alone m after lines i line words stop told all told_is within is words_is gives kept =
    subst (λ (t : UserStop). Drafts (Err t) all) (sym told_is) (by stop (ap (λ (x : List Word). line_gives alone m (texts x)) words_is) gives)
  where
    by : (stop : LineStop) → line_gives alone m (texts words) ≡ line_gives alone m (texts line.words.items) →
        Gives {X = Unit {0}} (λ _. after) (Err stop) (line_gives alone m (texts words)) → Drafts (Err (at_line line.number stop)) all
    by (Bad kind) same gives =
        let next : Result Stated UserKind → Result Stated (ℕ × UserKind) =
        λ r. onward line.number r (λ a. read_rows alone a (rows (drop (i + 1) lines))) in
        sym kept ∙ rows_at alone m lines i line within is ∙ ap next (sym same ∙ gives)
    by NoMemory same gives = tt
