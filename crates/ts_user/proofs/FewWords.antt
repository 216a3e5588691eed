-- The first words of a line decide what it says: no form has as many.
use Rattle.std.proofs.Common.{◌≡◌, ℕ, ◌<◌, ◌≤◌, ◌==◌, Bool, true, false, cond, ◌&&◌, not, nat_lt}
use Rattle.std.proofs.Common.{Ok, Err, List, [], ◌∷◌, length, take, sym, ap, subst, ◌∙◌, refl, arith}
use Rattle.std.proofs.Common.{ltb-true, ltb-false, ne_eqb, take_all}
use Rattle.std.specs.Prelude.{Result, Option, None, Some, is_some}
use Rattle.std.proofs.lemmas.List.{length-take-le, take-map}
use Rattle.ts_token.specs.declared.words.Word.{Word}
use Rattle.ts_token.specs.Text.{Piece, is_text, is_skipped, words_of}
use Rattle.ts_token.specs.Views.{pieces}
use Rattle.ts_user.specs.declared.user_stop.LineStop.{LineStop}
use Rattle.ts_user.specs.declared.user_stop.UserKind.{UserKind}
use Rattle.ts_user.specs.declared.user_stop.UserKind.TheVariants.{Shape as BadShape, Expression, Number, NotText}
use Rattle.ts_user.specs.declared.words.Form.{Form}
use Rattle.ts_user.specs.declared.words.Form.TheVariants.{Catalogue, Pattern, Trim, State, Move}
use Rattle.ts_user.specs.LineByLine.{line_after}
use Rattle.ts_user.specs.PatternReading.{texts_of, taken_as, line_gives}
use Rattle.ts_user.specs.Stated.{Stated}
use Rattle.ts_user.specs.Statement.{word_at, has_shape, bad_expression_of, bad_number_of, said_by, parsed_by, parsed_as, meaning_in}
use Rattle.ts_user.specs.Views.{texts, Gives}
use Rattle.ts_user.specs.Words.{form_of, letter_name}
use Rattle.ts_user.proofs.LineLaws.{texts_pieces}

other_count : (ws : List (List ℕ)) (n : ℕ) → 4 < length ws → n ≤ 4 → (length ws == n) ≡ false
other_count ws n long few = ne_eqb (length ws) n (λ e. omega (arith, e, long, few))

long_shape : (form : Form) (ws : List (List ℕ)) → 4 < length ws → has_shape form ws ≡ false
long_shape Catalogue ws long = other_count ws 1 long (omega arith)
long_shape Pattern ws long = other_count ws 1 long (omega arith)
long_shape Trim ws long = other_count ws 2 long (omega arith)
long_shape State ws long = ap (λ v. v && is_some (letter_name (word_at ws 0))) (other_count ws 2 long (omega arith))
long_shape Move ws long =
    ap (λ v. v && (is_some (letter_name (word_at ws 0)) && is_some (letter_name (word_at ws 3)))) (other_count ws 4 long (omega arith))

bad_shape : (form : Form) (ws : List (List ℕ)) → has_shape form ws ≡ false → parsed_by form ws ≡ Err BadShape
bad_shape form ws bad =
    ap (λ v. cond (not v) (Err BadShape)
    (cond (bad_expression_of form ws) (Err Expression) (cond (bad_number_of form ws) (Err Number) (Ok (said_by form ws))))) bad

few_parsed : (form : Form) (ws : List (List ℕ)) → parsed_by form (take 5 ws) ≡ parsed_by form ws
few_parsed form ws = go (nat_lt 5 (length ws)) refl
  where
    go : (t : Bool) → nat_lt 5 (length ws) ≡ t → parsed_by form (take 5 ws) ≡ parsed_by form ws
    go true e =
        let long : 5 < length ws = ltb-true 5 (length ws) e in
        let five : length (take 5 ws) ≡ 5 = length-take-le 5 ws (omega (arith, long)) in
        bad_shape form (take 5 ws) (long_shape form (take 5 ws) (omega (arith, five)))
        ∙ sym (bad_shape form ws (long_shape form ws (omega (arith, long))))
    go false e = ap (parsed_by form) (take_all 5 ws (ltb-false 5 (length ws) e))

few_mean : (words : List (List ℕ)) → meaning_in (take 6 words) ≡ meaning_in words
few_mean [] = refl
few_mean (first ∷ ws) = go (form_of first)
  where
    go : (form : Option Form) → parsed_as form (take 5 ws) ≡ parsed_as form ws
    go None = refl
    go (Some form) = few_parsed form ws

abbrev after_by : Bool → Stated → List ℕ → Bool → Bool → Result Stated UserKind
after_by alone m line t s = cond t (cond s (Ok m) (line_gives alone m (texts_of (words_of line)))) (Err NotText)

-- what the first words give, the line gives
pub first_give : {X : Type 0} (view : X → Stated) (result : Result X LineStop) (alone : Bool) (m : Stated) (line : List ℕ) (bare : List ℕ)
    (taken given : List Word) → is_text line ≡ true → is_skipped (words_of line) ≡ false → bare ≡ line →
    pieces taken ≡ take 6 (words_of bare) → given ≡ taken →
    Gives view result (line_gives alone m (texts given)) → Gives view result (line_after alone m line)
first_give view result alone m line bare taken given text words same are is gives =
    subst (Gives view result)
    (ap (line_gives alone m) (ap texts is ∙ sym (texts_pieces taken) ∙ ap texts_of (are ∙ ap (λ (x : List ℕ). take 6 (words_of x)) same)
    ∙ sym (take-map (λ (w : Piece). w.text) 6 (words_of line)))
    ∙ ap (taken_as alone m) (few_mean (texts_of (words_of line)))
    ∙ sym (ap (λ t. after_by alone m line t (is_skipped (words_of line))) text
    ∙ ap (after_by alone m line true) words))
    gives
