-- What a text reads as is what its lines state, or its first bad line.
use Rattle.std.proofs.Common.{◌≡◌, ℕ, ◌+◌, Bool, true, false, cond, not, inl, inr, Option, Some, None, Ok, Err, List, [], ◌∷◌, refl, sym, ap, subst, ◌∙◌}
use Rattle.std.specs.Prelude.{Result, is_none}
use Rattle.ts_token.specs.Text.{Row, Cut}
use Rattle.ts_token.specs.FirstBad.{AreGood}
use Rattle.ts_token.specs.FirstBadLaws.{Goes, Found, found_rows}
use Rattle.ts_user.specs.declared.words.Form.{Form}
use Rattle.ts_user.specs.declared.user_stop.UserKind.{UserKind}
use Rattle.ts_user.specs.declared.user_stop.UserKind.TheVariants.{NotText, UnknownLine, Shape, Expression, Number}
use Rattle.ts_user.specs.Words.{form_of}
use Rattle.ts_user.specs.Statement.{Meaning, has_shape, bad_expression_of, bad_number_of, said_by, parsed_as, meaning_in}
use Rattle.ts_user.specs.Stated.{Stated, nothing, with_meaning, first_kind, kinds, unless_kind, stated_with, described}
use Rattle.ts_user.specs.PatternReading.{is_alone, with_said, with_row, so_far, bad_shape, bad_expression, bad_number, kinds_said, kinds_of, kind_at, end_kind, IsEnd, IsReading, texts_of, taken_as, onward, read_rows, numbered, ended_text, end_reading, pattern_in}

-- the first of all kinds is that of the words, or the first of those of what they say
abbrev Joins : Bool → Stated → Result Meaning UserKind → Option UserKind → Type 0
Joins alone m (Err k) first = first ≡ Some k
Joins alone m (Ok s) first = first ≡ first_kind (kinds alone m s)

by_form : (alone : Bool) (m : Stated) (form : Option Form) (ws : List (List ℕ)) → Joins alone m (parsed_as form ws)
    (first_kind ((is_none form, UnknownLine) ∷ (bad_shape form ws, Shape) ∷ (bad_expression form ws, Expression) ∷ (bad_number form ws, Number)
    ∷ kinds_said alone m (parsed_as form ws)))
by_form alone m None ws = refl
by_form alone m (Some form) ws = by (not (has_shape form ws)) (bad_expression_of form ws) (bad_number_of form ws) (said_by form ws)
  where
    by : (shape expression number : Bool) (s : Meaning) →
        Joins alone m (cond shape (Err Shape) (cond expression (Err Expression) (cond number (Err Number) (Ok s))))
        (first_kind ((shape, Shape) ∷ (expression, Expression) ∷ (number, Number)
        ∷ kinds_said alone m (cond shape (Err Shape) (cond expression (Err Expression) (cond number (Err Number) (Ok s))))))
    by true expression number s = refl
    by false true number s = refl
    by false false true s = refl
    by false false false s = refl

all_kinds : (alone : Bool) (m : Stated) (words : List (List ℕ)) → Joins alone m (meaning_in words) (first_kind (kinds_of alone m words))
all_kinds alone m [] = refl
all_kinds alone m (first ∷ ws) = by_form alone m (form_of first) ws

-- the kind of a line after lines that state m
abbrev kind_of : Bool → Stated → Row → Option UserKind
kind_of alone m row = first_kind (kinds_of alone m (texts_of row.words))

goes_taken : (number : ℕ) (m : Stated) (first : Option UserKind) (next : Stated → Result Stated (ℕ × UserKind)) →
    Goes number first (onward number (unless_kind first m) next) (next m)
goes_taken number m None next = refl
goes_taken number m (Some k) next = refl

goes_on : (number : ℕ) (alone : Bool) (m : Stated) (p : Result Meaning UserKind) (first : Option UserKind) (next : Stated → Result Stated (ℕ × UserKind)) →
    Joins alone m p first → Goes number first (onward number (taken_as alone m p) next) (next (with_said m p))
goes_on number alone m (Err k) first next e = subst (λ f. Goes number f (Err (number, k)) (next m)) (sym e) refl
goes_on number alone m (Ok s) first next e =
    subst (λ f. Goes number f (onward number (stated_with alone m s) next) (next (with_meaning m s))) (sym e)
    (goes_taken number (with_meaning m s) (first_kind (kinds alone m s)) next)

line_goes : (alone : Bool) (m : Stated) (row : Row) (rows : List Row) →
    Goes row.number (kind_of alone m row) (read_rows alone m (row ∷ rows)) (read_rows alone (with_row m row) rows)
line_goes alone m row rows =
    goes_on row.number alone m (meaning_in (texts_of row.words)) (kind_of alone m row) (λ after. read_rows alone after rows)
    (all_kinds alone m (texts_of row.words))

end_text : (c : Cut) (m : Stated) (bad : Option ℕ) → AreGood (kind_at (is_alone c)) c.rows → so_far c.rows ≡ m → c.not_text ≡ bad →
    IsReading c (ended_text c m bad)
end_text c m (Some line) good is text = inr (good, subst (λ t. IsEnd c t line NotText) (sym text) (refl, refl))
end_text c m None good is text = by (end_kind m) refl
  where
    by : (kind : Option UserKind) → end_kind m ≡ kind → IsReading c (numbered (c.count + 1) (unless_kind kind (described m)))
    by None e = (good, text, ap end_kind is ∙ e, ap described (sym is))
    by (Some kind) e = inr (good, subst (λ t. IsEnd c t (c.count + 1) kind) (sym text) (refl, ap end_kind is ∙ e))

end_rows : (c : Cut) (read : Result Stated (ℕ × UserKind)) → Found with_row (kind_of (is_alone c)) nothing c.rows read → IsReading c (end_reading c read)
end_rows c (Err e) bad = inl bad
end_rows c (Ok m) found = end_text c m c.not_text found.0 found.1 refl

-- the reading is the pattern that the lines state, or the first bad line with the first kind that holds of it
pub reading_is : (c : Cut) → IsReading c (pattern_in c)
reading_is c =
    end_rows c (read_rows (is_alone c) nothing c.rows)
    (found_rows with_row (kind_of (is_alone c)) (read_rows (is_alone c)) (λ m. refl) (line_goes (is_alone c)) nothing c.rows)
