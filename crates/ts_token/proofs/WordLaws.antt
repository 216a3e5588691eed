-- The first word of a line.
use Rattle.std.proofs.Common.{◌≡◌, ℕ, ◌+◌, ◌<◌, Bool, true, false, not, cond, List, [], ◌∷◌, length, take, drop, get_or, refl, sym, ap, subst, ◌∙◌, arith}
use Rattle.std.specs.Prelude.{unwrap_or}
use Rattle.std.specs.List.{position, position_or_len}
use Rattle.std.proofs.lemmas.Bool.{not-true}
use Rattle.ts_token.specs.Text.{is_blank, stops_here, onto_word, words_from, Piece}
use Rattle.ts_token.specs.Steps.{is_solid}
use Rattle.ts_token.proofs.Fronts.{front, ending, take_front, drop_front, passes, place_is}

abbrev pub word : ℕ → List ℕ → Piece
word column text = record { text = text; column = column }

blanks_step : (column b : ℕ) (bs : List ℕ) (t : Bool) → is_blank b ≡ t →
    words_from (column + 1) bs ≡ words_from (column + 1 + position_or_len is_solid bs) (ending is_solid bs) →
    words_from column (b ∷ bs) ≡ words_from (column + position_or_len is_solid (b ∷ bs)) (ending is_solid (b ∷ bs))
blanks_step column b bs true e later =
    let some : position_or_len is_solid (b ∷ bs) ≡ 1 + position_or_len is_solid bs = ap (λ v. cond (not (not v)) (1 + position_or_len is_solid bs) 0) e in
    let all : ending is_solid (b ∷ bs) ≡ ending is_solid bs = ap (λ v. cond (not v) (b ∷ bs) (ending is_solid bs)) e in
    let same : column + 1 + position_or_len is_solid bs ≡ column + position_or_len is_solid (b ∷ bs) = omega (arith, some) in
    ap (λ v. cond v (words_from (column + 1) bs)
    (cond (stops_here bs) (word column (b ∷ []) ∷ words_from (column + 1) bs) (onto_word b column (words_from (column + 1) bs)))) e
    ∙ later ∙ ap (λ (k : ℕ). words_from k (ending is_solid bs)) same ∙ ap (λ (x : List ℕ). words_from (column + position_or_len is_solid (b ∷ bs)) x) (sym all)
blanks_step column b bs false e later =
    let none : position_or_len is_solid (b ∷ bs) ≡ 0 = ap (λ v. cond (not (not v)) (1 + position_or_len is_solid bs) 0) e in
    let all : ending is_solid (b ∷ bs) ≡ b ∷ bs = ap (λ v. cond (not v) (b ∷ bs) (ending is_solid bs)) e in
    let same : column ≡ column + position_or_len is_solid (b ∷ bs) = omega (arith, none) in
    ap (λ (k : ℕ). words_from k (b ∷ bs)) same ∙ ap (λ (x : List ℕ). words_from (column + position_or_len is_solid (b ∷ bs)) x) (sym all)

-- blanks before a word change nothing but the column
past_blanks : (column : ℕ) (line : List ℕ) → words_from column line ≡ words_from (column + position_or_len is_solid line) (ending is_solid line)
past_blanks column [] = refl
past_blanks column (b ∷ bs) = blanks_step column b bs (is_blank b) refl (past_blanks (column + 1) bs)

-- the words of a line with a word at its front
abbrev pub HasFront : ℕ → ℕ → List ℕ → Type 0
HasFront column b bs =
    words_from column (b ∷ bs) ≡ word column (b ∷ front is_blank bs) ∷ words_from (column + (1 + position_or_len is_blank bs)) (ending is_blank bs)

front_step : (column b c : ℕ) (cs : List ℕ) (t : Bool) → is_blank b ≡ false → is_blank c ≡ t → (is_blank c ≡ false → HasFront (column + 1) c cs) →
    HasFront column b (c ∷ cs)
front_step column b c cs true h e later =
    ap (λ v. cond v (words_from (column + 1) (c ∷ cs))
    (cond (is_blank c) (word column (b ∷ []) ∷ words_from (column + 1) (c ∷ cs)) (onto_word b column (words_from (column + 1) (c ∷ cs))))) h
    ∙ (let P : Bool → Type 0 = λ v. cond v (word column (b ∷ []) ∷ words_from (column + 1) (c ∷ cs)) (onto_word b column (words_from (column + 1) (c ∷ cs)))
    ≡ word column (b ∷ cond v [] (c ∷ front is_blank cs))
    ∷ words_from (column + (1 + cond (not v) (1 + position_or_len is_blank cs) 0)) (cond v (c ∷ cs) (ending is_blank cs)) in
    subst P (sym e) refl)
front_step column b c cs false h e later =
    ap (λ v. cond v (words_from (column + 1) (c ∷ cs))
    (cond (is_blank c) (word column (b ∷ []) ∷ words_from (column + 1) (c ∷ cs)) (onto_word b column (words_from (column + 1) (c ∷ cs))))) h
    ∙ (let P : Bool → Type 0 = λ v. cond v (word column (b ∷ []) ∷ words_from (column + 1) (c ∷ cs)) (onto_word b column (words_from (column + 1) (c ∷ cs)))
    ≡ word column (b ∷ cond v [] (c ∷ front is_blank cs))
    ∷ words_from (column + (1 + cond (not v) (1 + position_or_len is_blank cs) 0)) (cond v (c ∷ cs) (ending is_blank cs)) in
    let same : column + 1 + (1 + position_or_len is_blank cs) ≡ column + (1 + (1 + position_or_len is_blank cs)) = omega arith in
    subst P (sym e) (ap (onto_word b column) (later e) ∙ ap (λ (k : ℕ). word column (b ∷ c ∷ front is_blank cs) ∷ words_from k (ending is_blank cs)) same))

pub word_front : (column b : ℕ) (bs : List ℕ) → is_blank b ≡ false → HasFront column b bs
word_front column b [] h = ap (λ v. cond v [] (word column (b ∷ []) ∷ [])) h
word_front column b (c ∷ cs) h = front_step column b c cs (is_blank c) h refl (word_front (column + 1) c cs)

taken : (line : List ℕ) → 0 < length line → is_solid (get_or line 0 0) ≡ true → 0 < position_or_len is_blank line
taken [] some h = absurd (omega arith)
taken (b ∷ bs) some h =
    let P : Bool → Type 0 = λ v. 0 < cond (not v) (1 + position_or_len is_blank bs) 0 in subst P (sym (not-true (is_blank b) h)) (omega arith)

-- the words of a line that begins with one: that word, found by its length, and those after it
front_found : (column : ℕ) (line : List ℕ) → 0 < length line → is_solid (get_or line 0 0) ≡ true →
    words_from column line ≡ word column (take (position_or_len is_blank line) line)
    ∷ words_from (column + position_or_len is_blank line) (drop (position_or_len is_blank line) line)
front_found column [] some h = absurd (omega arith)
front_found column (b ∷ bs) some h =
    let solid : is_blank b ≡ false = not-true (is_blank b) h in
    let P : Bool → Type 0 =
    λ v. words_from column (b ∷ bs)
    ≡ word column (cond v [] (b ∷ front is_blank bs))
    ∷ words_from (column + cond (not v) (1 + position_or_len is_blank bs) 0) (cond v (b ∷ bs) (ending is_blank bs)) in
    subst P (sym solid) (word_front column b bs solid)
    ∙ ap (λ (x : List ℕ). word column x ∷ words_from (column + position_or_len is_blank (b ∷ bs)) (ending is_blank (b ∷ bs)))
    (sym (take_front is_blank (b ∷ bs)))
    ∙ ap (λ (x : List ℕ). word column (take (position_or_len is_blank (b ∷ bs)) (b ∷ bs)) ∷ words_from (column + position_or_len is_blank (b ∷ bs)) x)
    (sym (drop_front is_blank (b ∷ bs)))

-- the first word of a line, where its places were found
pub next_found : (column n m : ℕ) (line solid text after : List ℕ) → n ≡ unwrap_or (position is_solid line) (length line) → solid ≡ drop n line →
    0 < length solid →
    m ≡ unwrap_or (position is_blank solid) (length solid) → text ≡ take m solid → after ≡ drop m solid →
    words_from column line ≡ word (column + n) text ∷ words_from (column + n + m) after
next_found column n m line solid text after n_is solid_is some m_is text_is after_is =
    let n' = n_is ∙ place_is is_solid line in
    let m' = m_is ∙ place_is is_blank solid in
    let solid' : solid ≡ ending is_solid line = solid_is ∙ ap (λ (k : ℕ). drop k line) n' ∙ drop_front is_solid line in
    let more : 0 < length (ending is_solid line) = omega (arith, ap length solid') in
    past_blanks column line ∙ ap (λ (k : ℕ). words_from (column + k) (ending is_solid line)) (sym n') ∙ ap (words_from (column + n)) (sym solid')
    ∙ front_found (column + n) solid some (ap (λ (x : List ℕ). is_solid (get_or x 0 0)) solid' ∙ passes is_solid line more)
    ∙ ap (λ (k : ℕ). word (column + n) (take k solid) ∷ words_from (column + n + k) (drop k solid)) (sym m')
    ∙ ap (λ (x : List ℕ). word (column + n) x ∷ words_from (column + n + m) (drop m solid)) (sym text_is)
    ∙ ap (λ (x : List ℕ). word (column + n) text ∷ words_from (column + n + m) x) (sym after_is)

-- no word is left
pub none_found : (column n : ℕ) (line solid : List ℕ) → n ≡ unwrap_or (position is_solid line) (length line) → solid ≡ drop n line → length solid ≡ 0 →
    words_from column line ≡ []
none_found column n line solid n_is solid_is none =
    let n' = n_is ∙ place_is is_solid line in
    let solid' : solid ≡ ending is_solid line = solid_is ∙ ap (λ (k : ℕ). drop k line) n' ∙ drop_front is_solid line in
    past_blanks column line ∙ ap (words_from (column + position_or_len is_solid line)) (sym solid') ∙ empty solid none
  where
    empty : (xs : List ℕ) → length xs ≡ 0 → words_from (column + position_or_len is_solid line) xs ≡ []
    empty [] e = refl
    empty (x ∷ xs) e = absurd (omega arith)

pub some_taken : (n m : ℕ) (line solid : List ℕ) → n ≡ unwrap_or (position is_solid line) (length line) → solid ≡ drop n line → 0 < length solid →
    m ≡ unwrap_or (position is_blank solid) (length solid) → 0 < m
some_taken n m line solid n_is solid_is some m_is =
    let n' = n_is ∙ place_is is_solid line in
    let solid' : solid ≡ ending is_solid line = solid_is ∙ ap (λ (k : ℕ). drop k line) n' ∙ drop_front is_solid line in
    let more : 0 < length (ending is_solid line) = omega (arith, ap length solid') in
    let first = ap (λ (x : List ℕ). is_solid (get_or x 0 0)) solid' ∙ passes is_solid line more in
    omega (arith, m_is ∙ place_is is_blank solid, taken solid some first)
