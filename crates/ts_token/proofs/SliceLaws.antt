-- Each word of a text is the part of the text at its line and column.
use Rattle.std.proofs.Common.{◌≡◌, ℕ, suc, zero, ◌+◌, ◌-◌, ◌≤◌, Bool, true, false, cond, List, [], ◌∷◌, length, take, drop, refl, sym, ap, subst, ◌∙◌, arith, get_or, ◌==◌}
use Rattle.std.specs.List.{AllByRecursion}
use Rattle.ts_base.specs.Words.{is_lf, onto_line}
use Rattle.ts_token.specs.Text.{is_blank, ends_here, stops_here, onto_word, Piece, Row, words_of, words_from, lines_of, is_text, is_skipped, row_onto, rows_from, Cut, cut_of}
use Rattle.ts_token.proofs.RowLaws.{completed, finish}
use Rattle.ts_token.specs.Slices.{after_lf, past_lines, IsSlice, AreSlices}

abbrev word : ℕ → List ℕ → Piece
word column text = record { text = text; column = column }

-- a word of the bytes from a column on
abbrev IsPlaced : ℕ → List ℕ → Piece → Type 0
IsPlaced column line w = (column ≤ w.column) × (w.text ≡ take (length w.text) (drop (w.column - column) line))

placed_later : (column b : ℕ) (bs : List ℕ) (w : Piece) → IsPlaced (column + 1) bs w → IsPlaced column (b ∷ bs) w
placed_later column b bs w h =
    let more : w.column - column ≡ suc (w.column - (column + 1)) = omega (arith, h.0) in
    (omega (arith, h.0), h.1 ∙ ap (λ (k : ℕ). take (length w.text) (drop k (b ∷ bs))) (sym more))

all_later : (column b : ℕ) (bs : List ℕ) (ws : List Piece) → AllByRecursion (IsPlaced (column + 1) bs) ws → AllByRecursion (IsPlaced column (b ∷ bs)) ws
all_later column b bs [] h = h
all_later column b bs (w ∷ ws) h = (placed_later column b bs w h.0, all_later column b bs ws h.1)

-- the first word stands in this column
abbrev StartsAt : ℕ → List Piece → Type 0
StartsAt column [] = Unit {0}
StartsAt column (w ∷ ws) = w.column ≡ column

starts_onto : (b column : ℕ) (ws : List Piece) → StartsAt column (onto_word b column ws)
starts_onto b column [] = tt
starts_onto b column (w ∷ ws) = refl

starts_step : (column b : ℕ) (stops : Bool) (later : List Piece) → StartsAt column (cond stops (word column (b ∷ []) ∷ later) (onto_word b column later))
starts_step column b true later = refl
starts_step column b false later = starts_onto b column later

starts : (column : ℕ) (bs : List ℕ) → stops_here bs ≡ false → StartsAt column (words_from column bs)
starts column [] h = tt
starts column (b ∷ bs) h =
    let P : Bool → Type 0 =
    λ v. StartsAt column (cond v (words_from (column + 1) bs)
    (cond (stops_here bs) (word column (b ∷ []) ∷ words_from (column + 1) bs) (onto_word b column (words_from (column + 1) bs)))) in
    subst P (sym h) (starts_step column b (stops_here bs) (words_from (column + 1) bs))

onto_placed : (column b : ℕ) (bs : List ℕ) (ws : List Piece) → StartsAt (column + 1) ws → AllByRecursion (IsPlaced (column + 1) bs) ws →
    AllByRecursion (IsPlaced column (b ∷ bs)) (onto_word b column ws)
onto_placed column b bs [] s h = h
onto_placed column b bs (w ∷ ws) s h =
    let here : w.column - (column + 1) ≡ 0 = omega (arith, s) in
    let none : column - column ≡ 0 = omega arith in
    let text : w.text ≡ take (length w.text) bs = h.0.1 ∙ ap (λ (k : ℕ). take (length w.text) (drop k bs)) here in
    let first : b ∷ w.text ≡ take (length (b ∷ w.text)) (drop (column - column) (b ∷ bs)) =
    ap (λ (x : List ℕ). b ∷ x) text ∙ ap (λ (k : ℕ). take (length (b ∷ w.text)) (drop k (b ∷ bs))) (sym none) in
    ((omega arith, first), all_later column b bs ws h.1)

one_placed : (column b : ℕ) (bs : List ℕ) → IsPlaced column (b ∷ bs) (word column (b ∷ []))
one_placed column b bs =
    let none : column - column ≡ 0 = omega arith in
    (omega arith, ap (λ (k : ℕ). take 1 (drop k (b ∷ bs))) (sym none))

word_step : (column b : ℕ) (bs : List ℕ) (blank stops : Bool) → stops_here bs ≡ stops → AllByRecursion (IsPlaced (column + 1) bs) (words_from (column + 1) bs) →
    AllByRecursion (IsPlaced column (b ∷ bs))
    (cond blank (words_from (column + 1) bs)
    (cond stops (word column (b ∷ []) ∷ words_from (column + 1) bs) (onto_word b column (words_from (column + 1) bs))))
word_step column b bs true stops e later = all_later column b bs (words_from (column + 1) bs) later
word_step column b bs false true e later = (one_placed column b bs, all_later column b bs (words_from (column + 1) bs) later)
word_step column b bs false false e later = onto_placed column b bs (words_from (column + 1) bs) (starts (column + 1) bs e) later

-- each word of a line is its part at the word's column
placed : (column : ℕ) (line : List ℕ) → AllByRecursion (IsPlaced column line) (words_from column line)
placed column [] = tt
placed column (b ∷ bs) = word_step column b bs (is_blank b) (stops_here bs) refl (placed (column + 1) bs)

-- the lines stand in the text one after another
abbrev StandIn : List ℕ → List (List ℕ) → Type 0
StandIn text [] = Unit {0}
StandIn text (line ∷ lines) = (line ≡ take (length line) text) × StandIn (after_lf text) lines

onto_stands : (b : ℕ) (bs : List ℕ) (lines : List (List ℕ)) → is_lf b ≡ false → StandIn bs lines → StandIn (b ∷ bs) (onto_line b lines)
onto_stands b bs [] e h = (refl, tt)
onto_stands b bs (line ∷ lines) e h =
    let same : after_lf (b ∷ bs) ≡ after_lf bs = ap (λ v. cond v bs (after_lf bs)) e in
    (ap (λ (x : List ℕ). b ∷ x) h.0, subst (λ (x : List ℕ). StandIn x lines) (sym same) h.1)

-- a CR before an LF
cr_stands : (b : ℕ) (bs : List ℕ) → is_lf b ≡ false → ends_here bs ≡ true → StandIn bs (lines_of bs) → StandIn (b ∷ bs) (lines_of bs)
cr_stands b [] e end h = tt
cr_stands b (c ∷ cs) e end h =
    let cut : lines_of (c ∷ cs) ≡ [] ∷ lines_of cs =
    ap (λ v. cond v ([] ∷ lines_of cs) (cond (cond (c == 13) (ends_here cs) false) (lines_of cs) (onto_line c (lines_of cs)))) end in
    let same : after_lf (b ∷ c ∷ cs) ≡ after_lf (c ∷ cs) = ap (λ v. cond v (c ∷ cs) (after_lf (c ∷ cs))) e in
    let both : StandIn (c ∷ cs) ([] ∷ lines_of cs) = subst (λ (x : List (List ℕ)). StandIn (c ∷ cs) x) cut h in
    let goal : StandIn (b ∷ c ∷ cs) ([] ∷ lines_of cs) = (refl, subst (λ (x : List ℕ). StandIn x (lines_of cs)) (sym same) both.1) in
    subst (λ (x : List (List ℕ)). StandIn (b ∷ c ∷ cs) x) (sym cut) goal

line_step : (b : ℕ) (bs : List ℕ) (lf cr end : Bool) → is_lf b ≡ lf → ends_here bs ≡ end → StandIn bs (lines_of bs) →
    StandIn (b ∷ bs) (cond lf ([] ∷ lines_of bs) (cond (cond cr end false) (lines_of bs) (onto_line b (lines_of bs))))
line_step b bs true cr end e f h =
    let same : after_lf (b ∷ bs) ≡ bs = ap (λ v. cond v bs (after_lf bs)) e in
    (refl, subst (λ (x : List ℕ). StandIn x (lines_of bs)) (sym same) h)
line_step b bs false true true e f h = cr_stands b bs e f h
line_step b bs false true false e f h = onto_stands b bs (lines_of bs) e h
line_step b bs false false end e f h = onto_stands b bs (lines_of bs) e h

stand : (text : List ℕ) → StandIn text (lines_of text)
stand [] = tt
stand (b ∷ bs) = line_step b bs (is_lf b) (b == 13) (ends_here bs) refl refl (stand bs)

-- a part of a part
part_of_part : (word : List ℕ) (k m : ℕ) (text : List ℕ) → word ≡ take (length word) (drop k (take m text)) → word ≡ take (length word) (drop k text)
part_of_part word zero m text h = front word m text h where
  front : (word : List ℕ) (m : ℕ) (text : List ℕ) → word ≡ take (length word) (take m text) → word ≡ take (length word) text
  front [] m text h = refl
  front (b ∷ word) zero text h = cc
  front (b ∷ word) (suc m) [] h = h
  front (b ∷ word) (suc m) (c ∷ cs) h =
      let same : b ≡ c = ap (λ (x : List ℕ). get_or x 0 0) h in
      ap (λ (x : ℕ). x ∷ word) same ∙ ap (λ (x : List ℕ). c ∷ x) (front word m cs (ap (drop 1) h))
part_of_part [] (suc k) zero text h = refl
part_of_part (b ∷ word) (suc k) zero text h = cc
part_of_part word (suc k) (suc m) [] h = h
part_of_part word (suc k) (suc m) (c ∷ cs) h = part_of_part word k m cs h

slice : (text line whole : List ℕ) (number : ℕ) (w : Piece) → line ≡ take (length line) text → past_lines (number - 1) whole ≡ text → IsPlaced 1 line w →
    IsSlice whole number w
slice text line whole number w line_is text_is h =
    let inside : w.text ≡ take (length w.text) (drop (w.column - 1) (take (length line) text)) =
    h.1 ∙ ap (λ (x : List ℕ). take (length w.text) (drop (w.column - 1) x)) line_is in
    part_of_part w.text (w.column - 1) (length line) text inside ∙ ap (λ (x : List ℕ). take (length w.text) (drop (w.column - 1) x)) (sym text_is)

slices : (text line whole : List ℕ) (number : ℕ) (ws : List Piece) → line ≡ take (length line) text → past_lines (number - 1) whole ≡ text →
    AllByRecursion (IsPlaced 1 line) ws → AllByRecursion (IsSlice whole number) ws
slices text line whole number [] line_is text_is h = tt
slices text line whole number (w ∷ ws) line_is text_is h =
    (slice text line whole number w line_is text_is h.0, slices text line whole number ws line_is text_is h.1)

row_step : (whole : List ℕ) (number : ℕ) (words : List Piece) (skipped : Bool) (later : List Row) → AllByRecursion (IsSlice whole number) words →
    AreSlices whole later → AreSlices whole (cond skipped later (record { number = number; words = words } ∷ later))
row_step whole number words true later h k = k
row_step whole number words false later h k = (h, k)

rows : (text whole : List ℕ) (number : ℕ) (lines : List (List ℕ)) → 1 ≤ number → past_lines (number - 1) whole ≡ text → StandIn text lines →
    AreSlices whole (rows_from number lines)
rows text whole number [] some text_is h = tt
rows text whole number (line ∷ lines) some text_is h =
    let later : number + 1 - 1 ≡ suc (number - 1) = omega (arith, some) in
    let rest : AreSlices whole (rows_from (number + 1) lines) =
    rows (after_lf text) whole (number + 1) lines (omega arith) (ap (λ (k : ℕ). past_lines k whole) later ∙ ap after_lf text_is) h.1 in
    let here : AllByRecursion (IsSlice whole number) (words_of line) = slices text line whole number (words_of line) h.0 text_is (placed 1 line) in
    elim (is_text line) as (λ v. AreSlices whole (cond v (row_onto number (words_of line) (rows_from (number + 1) lines)) [])) [
      | true ↦ row_step whole number (words_of line) (is_skipped (words_of line)) (rows_from (number + 1) lines) here rest
      | false ↦ tt
    ]

-- each word of the lines of a text is its part at the word's line and column
pub are_slices : (text : List ℕ) → AreSlices text (cut_of text).rows
are_slices text = rows text text 1 (lines_of text) (omega arith) refl (stand text)

-- so it is of the rows of a cut after which no line is left
pub finished_slices : (text rest : List ℕ) (c : Cut) → length rest ≡ 0 → completed c (lines_of rest) ≡ cut_of text → AreSlices text c.rows
finished_slices text [] c none all = subst (λ (x : Cut). AreSlices text x.rows) (sym all ∙ finish c) (are_slices text)
finished_slices text (b ∷ bs) c none all = absurd (omega arith)
