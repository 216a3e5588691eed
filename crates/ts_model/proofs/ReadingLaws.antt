-- What a text reads as is what its lines state, or its first bad line.
use Rattle.std.proofs.Common.{◌≡◌, ℕ, ◌+◌, Bool, true, false, cond, not, ◌&&◌, inl, inr, Option, Some, None, Ok, Err, List, [], ◌∷◌, refl, sym, ap, subst, ◌∙◌}
use Rattle.std.specs.Prelude.{Result, is_none, ok_or}
use Rattle.ts_token.specs.Text.{Row, Cut}
use Rattle.ts_token.specs.FirstBad.{AreGood}
use Rattle.ts_token.specs.FirstBadLaws.{Goes, Found, found_rows}
use Rattle.ts_model.specs.declared.words.Form.{Form}
use Rattle.ts_model.specs.declared.error.ModelKind.{ModelKind}
use Rattle.ts_model.specs.declared.error.ModelKind.TheVariants.{NotText, UnknownLine, Shape, Number, NoCells, NoObjective}
use Rattle.ts_model.specs.declared.model.Need.{Need}
use Rattle.ts_model.specs.Words.{form_of}
use Rattle.ts_model.specs.Statement.{Meaning, has_shape, said_by, parsed_as, meaning_in}
use Rattle.ts_model.specs.ModelParts.{ModelParts, nothing, with_meaning, first_kind, kinds, has_cells, unless_kind, parts_after}
use Rattle.ts_model.specs.ModelReading.{needs_lists, needs_objective, with_said, with_row, so_far, bad_shape, bad_number, kinds_said, kinds_of, kind_at, IsEnd, IsReading, texts_of, taken_as, onward, read_rows, then_on, unless_bad, ended_model, reading}

-- the first of all kinds is that of the words, or the first of those of what they say
abbrev Joins : Bool → ModelParts → Result Meaning ModelKind → Option ModelKind → Type 0
Joins lists m (Err k) first = first ≡ Some k
Joins lists m (Ok s) first = first ≡ first_kind (kinds lists m s)

by_shape : (lists : Bool) (m : ModelParts) (shape : Bool) (s : Option Meaning) → Joins lists m (cond shape (ok_or s Number) (Err Shape))
    (first_kind ((not shape, Shape) ∷ (is_none s, Number) ∷ kinds_said lists m (cond shape (ok_or s Number) (Err Shape))))
by_shape lists m true None = refl
by_shape lists m true (Some s) = refl
by_shape lists m false s = refl

by_form : (lists : Bool) (m : ModelParts) (form : Option Form) (ws : List (List ℕ)) → Joins lists m (parsed_as form ws)
    (first_kind ((is_none form, UnknownLine) ∷ (bad_shape form ws, Shape) ∷ (bad_number form ws, Number) ∷ kinds_said lists m (parsed_as form ws)))
by_form lists m None ws = refl
by_form lists m (Some form) ws = by_shape lists m (has_shape form ws) (said_by form ws)

all_kinds : (lists : Bool) (m : ModelParts) (words : List (List ℕ)) → Joins lists m (meaning_in words) (first_kind (kinds_of lists m words))
all_kinds lists m [] = refl
all_kinds lists m (first ∷ ws) = by_form lists m (form_of first) ws

-- the kind of a line after lines that state m
abbrev kind_of : Bool → ModelParts → Row → Option ModelKind
kind_of lists m row = first_kind (kinds_of lists m (texts_of row.words))

goes_taken : (number : ℕ) (m : ModelParts) (first : Option ModelKind) (next : ModelParts → Result ModelParts (ℕ × ModelKind)) →
    Goes number first (onward number (unless_kind first m) next) (next m)
goes_taken number m None next = refl
goes_taken number m (Some k) next = refl

goes_on : (number : ℕ) (lists : Bool) (m : ModelParts) (p : Result Meaning ModelKind) (first : Option ModelKind)
    (next : ModelParts → Result ModelParts (ℕ × ModelKind)) → Joins lists m p first →
    Goes number first (onward number (taken_as lists m p) next) (next (with_said m p))
goes_on number lists m (Err k) first next e = subst (λ f. Goes number f (Err (number, k)) (next m)) (sym e) refl
goes_on number lists m (Ok s) first next e =
    subst (λ f. Goes number f (onward number (parts_after lists m s) next) (next (with_meaning m s))) (sym e)
    (goes_taken number (with_meaning m s) (first_kind (kinds lists m s)) next)

line_goes : (lists : Bool) (m : ModelParts) (row : Row) (rows : List Row) →
    Goes row.number (kind_of lists m row) (read_rows lists m (row ∷ rows)) (read_rows lists (with_row m row) rows)
line_goes lists m row rows =
    goes_on row.number lists m (meaning_in (texts_of row.words)) (kind_of lists m row) (λ after. read_rows lists after rows)
    (all_kinds lists m (texts_of row.words))

end_aim : (need : Need) (c : Cut) (m : ModelParts) (none : Bool) → AreGood (kind_at (needs_lists need)) c.rows → so_far c.rows ≡ m → c.not_text ≡ None →
    has_cells m ≡ true →
    (needs_objective need && is_none m.objective) ≡ none → IsReading need c (cond none (Err (c.count + 1, NoObjective)) (Ok m))
end_aim need c m false good is text has aim = (good, text, has, aim, sym is)
end_aim need c m true good is text has aim =
    let both : (needs_objective need ≡ true) × (m.objective ≡ None) = parts (needs_objective need) m.objective aim in
    inr (
      good,
      subst (λ t. IsEnd need c t (c.count + 1) NoObjective) (sym text)
          (inr (ap has_cells is ∙ has, both.0, ap (λ (x : ModelParts). x.objective) is ∙ both.1, refl, refl)),
    )
  where
    parts : (b : Bool) (o : Option ℕ) → (b && is_none o) ≡ true → (b ≡ true) × (o ≡ None)
    parts true None e = (refl, refl)
    parts true (Some x) e = cc
    parts false o e = cc

end_cells : (need : Need) (c : Cut) (m : ModelParts) (some : Bool) → AreGood (kind_at (needs_lists need)) c.rows → so_far c.rows ≡ m → c.not_text ≡ None →
    has_cells m ≡ some →
    IsReading need c (cond (not some) (Err (c.count + 1, NoCells)) (cond (needs_objective need && is_none m.objective) (Err (c.count + 1, NoObjective)) (Ok m)))
end_cells need c m true good is text has = end_aim need c m (needs_objective need && is_none m.objective) good is text has refl
end_cells need c m false good is text has = inr (good, subst (λ t. IsEnd need c t (c.count + 1) NoCells) (sym text) (inl (ap has_cells is ∙ has, refl, refl)))

end_text : (need : Need) (c : Cut) (m : ModelParts) (bad : Option ℕ) → AreGood (kind_at (needs_lists need)) c.rows → so_far c.rows ≡ m → c.not_text ≡ bad →
    IsReading need c (then_on (unless_bad bad m) (ended_model need c.count))
end_text need c m None good is text = end_cells need c m (has_cells m) good is text refl
end_text need c m (Some line) good is text = inr (good, subst (λ t. IsEnd need c t line NotText) (sym text) (refl, refl))

end_rows : (need : Need) (c : Cut) (read : Result ModelParts (ℕ × ModelKind)) → Found with_row (kind_of (needs_lists need)) nothing c.rows read →
    IsReading need c (then_on (then_on read (unless_bad c.not_text)) (ended_model need c.count))
end_rows need c (Err e) bad = inl bad
end_rows need c (Ok m) found = end_text need c m c.not_text found.0 found.1 refl

-- the reading is the model that the lines state, or the first bad line with the first kind that holds of it
pub reading_is : (need : Need) (c : Cut) → IsReading need c (reading need c)
reading_is need c =
    end_rows need c (read_rows (needs_lists need) nothing c.rows)
    (found_rows with_row (kind_of (needs_lists need)) (read_rows (needs_lists need)) (λ m. refl) (line_goes (needs_lists need)) nothing c.rows)
