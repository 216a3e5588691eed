-- One more line.
use Rattle.std.proofs.Common.{◌≡◌, ℕ, ◌+◌, true, false, cond, Option, Some, None, List, [], ◌∷◌, ◌++◌, length, refl, sym, ap, arith, append_assoc, append-nil}
use Rattle.ts_token.specs.Text.{Piece, Row, Cut, is_text, is_skipped, words_of, row_onto, rows_from, not_text_from, lines_of, cut_of}
use Rattle.ts_token.specs.Steps.{with_line, with_text}

abbrev made : List Row → ℕ → Option ℕ → Cut
made rows count not_text = record { rows = rows; count = count; not_text = not_text }

abbrev complete : List Row → ℕ → Option ℕ → List (List ℕ) → Cut
complete rows count (Some bad) lines = made rows (count + length lines) (Some bad)
complete rows count None lines = made (rows ++ rows_from (count + 1) lines) (count + length lines) (not_text_from (count + 1) lines)

-- the cut of lines after those of c
abbrev pub completed : Cut → List (List ℕ) → Cut
completed c lines = complete c.rows c.count c.not_text lines

same : (r r' : List Row) (n n' : ℕ) (t : Option ℕ) → r ≡ r' → n ≡ n' → made r n t ≡ made r' n' t
same r r' n n' t p q = λ i. made (p i) (q i) t

row_before : (n : ℕ) (words : List Piece) (rows later : List Row) → (rows ++ row_onto n words []) ++ later ≡ rows ++ row_onto n words later
row_before n words rows later =
    elim (is_skipped words) as (λ v. (rows ++ cond v [] (record { number = n; words = words } ∷ [])) ++ later
    ≡ rows ++ cond v later (record { number = n; words = words } ∷ later)) [
      | true ↦ ap (λ (x : List Row). x ++ later) (append-nil rows)
      | false ↦ append_assoc rows (record { number = n; words = words } ∷ []) later
    ]

line_step : (rows : List Row) (count : ℕ) (bad : Option ℕ) (line : List ℕ) (lines : List (List ℕ)) →
    completed (with_text (made rows count bad) line bad) lines ≡ complete rows count bad (line ∷ lines)
line_step rows count (Some bad) line lines = same rows rows (count + 1 + length lines) (count + length (line ∷ lines)) (Some bad) refl (omega arith)
line_step rows count None line lines =
    let more : count + 1 + length lines ≡ count + length (line ∷ lines) = omega arith in
    elim (is_text line) as (λ v. completed
    (cond v (made (rows ++ row_onto (count + 1) (words_of line) []) (count + 1) None) (made rows (count + 1) (Some (count + 1)))) lines
    ≡ made (rows ++ cond v (row_onto (count + 1) (words_of line) (rows_from (count + 1 + 1) lines)) []) (count + length (line ∷ lines))
    (cond v (not_text_from (count + 1 + 1) lines) (Some (count + 1)))) [
      | true ↦ same ((rows ++ row_onto (count + 1) (words_of line) []) ++ rows_from (count + 1 + 1) lines)
          (rows ++ row_onto (count + 1) (words_of line) (rows_from (count + 1 + 1) lines)) (count + 1 + length lines) (count + length (line ∷ lines))
          (not_text_from (count + 1 + 1) lines) (row_before (count + 1) (words_of line) rows (rows_from (count + 1 + 1) lines)) more
      | false ↦ same rows (rows ++ []) (count + 1 + length lines) (count + length (line ∷ lines)) (Some (count + 1)) (sym (append-nil rows)) more
    ]

pub step : (c : Cut) (line : List ℕ) (lines : List (List ℕ)) → completed (with_line c line) lines ≡ completed c (line ∷ lines)
step c line lines = line_step c.rows c.count c.not_text line lines

pub start : (text : List ℕ) → completed (made [] 0 None) (lines_of text) ≡ cut_of text
start text =
    same (rows_from 1 (lines_of text)) (rows_from 1 (lines_of text)) (0 + length (lines_of text)) (length (lines_of text)) (not_text_from 1 (lines_of text))
    refl (omega arith)

finish_by : (rows : List Row) (count : ℕ) (bad : Option ℕ) → complete rows count bad [] ≡ made rows count bad
finish_by rows count (Some bad) = same rows rows (count + 0) count (Some bad) refl (omega arith)
finish_by rows count None = same (rows ++ []) rows (count + 0) count None (append-nil rows) (omega arith)

pub finish : (c : Cut) → completed c [] ≡ c
finish c = finish_by c.rows c.count c.not_text
