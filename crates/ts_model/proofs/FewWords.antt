-- Of a line without ranges its first words tell what it says.
use Rattle.std.proofs.Common.{◌≡◌, ℕ, ◌<◌, ◌≤◌, ◌==◌, Bool, true, false, cond, ◌&&◌, nat_lt, Err, List, length, take, sym, ap, subst, ◌∙◌, refl, arith}
use Rattle.std.proofs.Common.{ltb-true, ltb-false, ne_eqb, take_all}
use Rattle.std.specs.Prelude.{Result, is_some, ok_or}
use Rattle.std.proofs.lemmas.List.{length-take-le, take-map}
use Rattle.ts_token.specs.declared.words.Word.{Word}
use Rattle.ts_token.specs.Text.{Piece}
use Rattle.ts_token.specs.Views.{pieces}
use Rattle.ts_model.specs.declared.error.LineStop.{LineStop}
use Rattle.ts_model.specs.declared.error.ModelKind.TheVariants.{Shape, Number}
use Rattle.ts_model.specs.declared.statement.Statement.{Statement}
use Rattle.ts_model.specs.declared.words.Form.{Form}
use Rattle.ts_model.specs.declared.words.Form.TheVariants.{Cells, Domain, Cell, Term, Require, Objective}
use Rattle.ts_model.specs.ModelReading.{texts_of}
use Rattle.ts_model.specs.Statement.{HasFew, word_at, has_shape, said_by, parsed_by}
use Rattle.ts_model.specs.Views.{texts, meaning_of, Gives}
use Rattle.ts_model.specs.Words.{is_count, is_equals, is_name, op_of}
use Rattle.ts_model.proofs.LineLaws.{texts_pieces}
use Rattle.ts_model.proofs.TermLines.{ends_at, none_there}

other_count : (ws : List (List ℕ)) (n : ℕ) → 7 < length ws → n ≤ 7 → (length ws == n) ≡ false
other_count ws n long few = ne_eqb (length ws) n (λ e. omega (arith, e, long, few))

-- with a tail too a term has fewer words
long_term : (t : Bool) (ws : List (List ℕ)) → 7 < length ws → ends_at (cond t 4 5) ws ≡ false
long_term true ws long = none_there 4 ws (other_count ws 4 long (omega arith)) (other_count ws 6 long (omega arith))
long_term false ws long = none_there 5 ws (other_count ws 5 long (omega arith)) (other_count ws 7 long (omega arith))

-- no line of the form has so many words
long_shape : (form : Form) (ws : List (List ℕ)) → HasFew form → 7 < length ws → has_shape form ws ≡ false
long_shape Cells ws few long = other_count ws 1 long (omega arith)
long_shape Domain ws few long = absurd few
long_shape Cell ws few long = absurd few
long_shape Term ws few long = ap (λ v. v && (is_name (word_at ws 0) && is_equals (word_at ws 1))) (long_term (is_count (word_at ws 2)) ws long)
long_shape Require ws few long = ap (λ v. v && (is_name (word_at ws 0) && is_some (op_of (word_at ws 1)))) (other_count ws 3 long (omega arith))
long_shape Objective ws few long = ap (λ v. v && is_name (word_at ws 0)) (other_count ws 1 long (omega arith))

bad_shape : (form : Form) (ws : List (List ℕ)) → has_shape form ws ≡ false → parsed_by form ws ≡ Err Shape
bad_shape form ws bad = ap (λ v. cond v (ok_or (said_by form ws) Number) (Err Shape)) bad

few_tell : (form : Form) (ws : List (List ℕ)) → HasFew form → parsed_by form (take 8 ws) ≡ parsed_by form ws
few_tell form ws few = go (nat_lt 8 (length ws)) refl
  where
    go : (t : Bool) → nat_lt 8 (length ws) ≡ t → parsed_by form (take 8 ws) ≡ parsed_by form ws
    go true e =
        let long : 8 < length ws = ltb-true 8 (length ws) e in
        let eight : length (take 8 ws) ≡ 8 = length-take-le 8 ws (omega (arith, long)) in
        bad_shape form (take 8 ws) (long_shape form (take 8 ws) few (omega (arith, eight)))
        ∙ sym (bad_shape form ws (long_shape form ws few (omega (arith, long))))
    go false e = ap (parsed_by form) (take_all 8 ws (ltb-false 8 (length ws) e))

-- what the first words say, the line says
pub first_say : (form : Form) (words : List Piece) (taken given : List Word) (result : Result Statement LineStop) → HasFew form → pieces taken ≡ take 8 words →
    given ≡ taken → Gives meaning_of result (parsed_by form (texts given)) → Gives meaning_of result (parsed_by form (texts_of words))
first_say form words taken given result few are same gives =
    subst (Gives meaning_of result)
    (ap (λ (x : List Word). parsed_by form (texts x)) same
    ∙ ap (parsed_by form) (sym (texts_pieces taken) ∙ ap texts_of are ∙ sym (take-map (λ (w : Piece). w.text) 8 words))
    ∙ few_tell form (texts_of words) few)
    gives
