-- The text before a separator, and after it.
use Rattle.std.proofs.Common.{◌≡◌, ℕ, ◌+◌, ◌≤◌, true, false, cond, Option, Some, List, [], ◌∷◌, ◌++◌, length, take, drop, refl, sym, ap, ◌∙◌, arith, append_assoc, append-nil, length-append}
use Rattle.std.specs.Prelude.{codes}
use Rattle.std.specs.List.{concat}
use Rattle.std.specs.Str.{bytes_eq}
use Rattle.std.proofs.Math.Seq.{take-add, take-append_seam, drop-append_seam}
use Rattle.std.proofs.lemmas.List.{drop-drop, length-drop}
use Rattle.ts_base.specs.Words.{strict_lines}
use Rattle.ts_base.proofs.WordLaws.{lines_are}
use Rattle.ts_token.specs.Text.{Piece}
use Rattle.ts_token.specs.Halves.{is_mark, is_separator, Halves, after_front, halves}

-- a line by its words
pub mark_none : (words : List Piece) → words ≡ [] → is_mark words ≡ false
mark_none words none = ap is_mark none

pub mark_more : (words : List Piece) (w v : Piece) (vs ws : List Piece) → words ≡ w ∷ ws → ws ≡ v ∷ vs → is_mark words ≡ false
mark_more words w v vs ws some more = rw (some, more) refl

pub mark_one : (words : List Piece) (w : Piece) (ws : List Piece) → words ≡ w ∷ ws → ws ≡ [] → is_mark words ≡ bytes_eq w.text (codes "%%")
mark_one words w ws some alone = rw (some, alone) refl

abbrev made : List ℕ → Option (List ℕ) → Halves
made model rest = record { model = model; rest = rest }

-- the line at this place is the separator
pub found : (text model left line rest : List ℕ) (at : ℕ) (all : Halves) → model ≡ take at text → left ≡ drop at text →
    strict_lines left ≡ line ∷ strict_lines rest → is_separator line ≡ true → after_front (take at text) (halves (strict_lines (drop at text))) ≡ all →
    made model (Some rest) ≡ all
found text model left line rest at all model_is left_is cut mark so_far =
    ap (λ (x : List ℕ). made x (Some rest)) (model_is ∙ sym (append-nil (take at text)))
    ∙ ap (λ (x : List ℕ). made (take at text ++ []) (Some x)) (sym (lines_are rest))
    ∙ ap (λ v. after_front (take at text) (cond v (made [] (Some (concat (strict_lines rest)))) (after_front line (halves (strict_lines rest))))) (sym mark)
    ∙ ap (λ (x : List (List ℕ)). after_front (take at text) (halves x)) (sym cut)
    ∙ ap (λ (x : List ℕ). after_front (take at text) (halves (strict_lines x))) left_is ∙ so_far

-- it is another line
pub passed : (text left line rest : List ℕ) (at : ℕ) (all : Halves) → left ≡ drop at text → left ≡ line ++ rest →
    strict_lines left ≡ line ∷ strict_lines rest → is_separator line ≡ false → after_front (take at text) (halves (strict_lines (drop at text))) ≡ all →
    after_front (take (at + length line) text) (halves (strict_lines (drop (at + length line) text))) ≡ all
passed text left line rest at all left_is parts cut mark so_far =
    let front : take (at + length line) text ≡ take at text ++ line =
    take-add at (length line) text ∙ ap (λ (x : List ℕ). take at text ++ take (length line) x) (sym left_is ∙ parts)
    ∙ ap (λ (x : List ℕ). take at text ++ x) (take-append_seam line rest) in
    let behind : drop (at + length line) text ≡ rest =
    sym (drop-drop (length line) at text) ∙ ap (drop (length line)) (sym left_is ∙ parts) ∙ drop-append_seam line rest in
    ap (λ (x : List ℕ). after_front x (halves (strict_lines (drop (at + length line) text)))) front
    ∙ ap (λ (x : List ℕ). after_front (take at text ++ line) (halves (strict_lines x))) behind
    ∙ ap (λ (x : List ℕ). made x (halves (strict_lines rest)).rest) (append_assoc (take at text) line (halves (strict_lines rest)).model)
    ∙ ap (λ v. after_front (take at text) (cond v (made [] (Some (concat (strict_lines rest)))) (after_front line (halves (strict_lines rest))))) (sym mark)
    ∙ ap (λ (x : List (List ℕ)). after_front (take at text) (halves x)) (sym cut)
    ∙ ap (λ (x : List ℕ). after_front (take at text) (halves (strict_lines x))) left_is ∙ so_far

-- it ends within the text
pub line_within : (text left line rest : List ℕ) (at : ℕ) → at ≤ length text → left ≡ drop at text → left ≡ line ++ rest → at + length line ≤ length text
line_within text left line rest at h left_is parts =
    let whole = ap length (sym left_is ∙ parts) ∙ length-append line rest in
    let behind = length-drop at text in
    omega arith
