-- A text cut after its first LF, and a line cut before its LF and at its first space.
use Rattle.std.proofs.Common.{◌≡◌, ℕ, suc, ◌+◌, ◌-◌, ◌<◌, ◌≤◌, Bool, true, false, not, cond, Some, None, List, [], ◌∷◌, length, take, drop, refl, sym, ap, ◌∙◌, arith, nat_lt}
use Rattle.std.specs.List.{position, position_or_len}
use Rattle.std.proofs.lemmas.Bool.{ltb-false}
use Rattle.std.proofs.lemmas.Option.{cond_some}
use Rattle.std.proofs.lemmas.List.{take_all, drop_all, take_rest}
use Rattle.ts_base.specs.Words.{is_lf, is_space, onto_line, strict_lines, Words, after_space, onto_word, words_of, all_words}

one_plus : (n : ℕ) → 1 + n ≡ suc n
one_plus n = omega arith

next_place : (n : ℕ) → 1 + n + 1 ≡ suc (n + 1)
next_place n = omega arith

-- the first line with its LF, and what follows
abbrev front : List ℕ → List ℕ
front [] = []
front (b ∷ bs) = cond (is_lf b) (b ∷ []) (b ∷ front bs)

abbrev after : List ℕ → List ℕ
after [] = []
after (b ∷ bs) = cond (is_lf b) bs (after bs)

line_step : (b c : ℕ) (cs : List ℕ) (t : Bool) → strict_lines (c ∷ cs) ≡ front (c ∷ cs) ∷ strict_lines (after (c ∷ cs)) →
    cond t ((b ∷ []) ∷ strict_lines (c ∷ cs)) (onto_line b (strict_lines (c ∷ cs)))
    ≡ cond t (b ∷ []) (b ∷ front (c ∷ cs)) ∷ strict_lines (cond t (c ∷ cs) (after (c ∷ cs)))
line_step b c cs true ih = refl
line_step b c cs false ih = ap (onto_line b) ih

line_one : (b : ℕ) (t : Bool) → cond t ((b ∷ []) ∷ []) ((b ∷ []) ∷ []) ≡ cond t (b ∷ []) (b ∷ []) ∷ strict_lines (cond t [] [])
line_one b true = refl
line_one b false = refl

line_cut : (b : ℕ) (bs : List ℕ) → strict_lines (b ∷ bs) ≡ front (b ∷ bs) ∷ strict_lines (after (b ∷ bs))
line_cut b [] = line_one b (is_lf b)
line_cut b (c ∷ cs) = line_step b c cs (is_lf b) (line_cut c cs)

take_front : (text : List ℕ) → take (position_or_len is_lf text + 1) text ≡ front text
take_front [] = refl
take_front (b ∷ bs) =
    elim (is_lf b) as (λ v. take (cond (not v) (1 + position_or_len is_lf bs) 0 + 1) (b ∷ bs) ≡ cond v (b ∷ []) (b ∷ front bs)) [
      | true ↦ refl
      | false ↦ rw (next_place (position_or_len is_lf bs)) (ap (λ (x : List ℕ). b ∷ x) (take_front bs))
    ]

drop_front : (text : List ℕ) → drop (position_or_len is_lf text + 1) text ≡ after text
drop_front [] = refl
drop_front (b ∷ bs) =
    elim (is_lf b) as (λ v. drop (cond (not v) (1 + position_or_len is_lf bs) 0 + 1) (b ∷ bs) ≡ cond v bs (after bs)) [
      | true ↦ refl
      | false ↦ rw (next_place (position_or_len is_lf bs)) (drop_front bs)
    ]

-- the first line is as long as the place of the first LF says
abbrev IsCut : List ℕ → ℕ → Type 0
IsCut text n = strict_lines text ≡ take n text ∷ strict_lines (drop n text)

line_at : (text : List ℕ) → 0 < length text → IsCut text (position_or_len is_lf text + 1)
line_at [] h = absurd (omega arith)
line_at (b ∷ bs) h =
    line_cut b bs
    ∙ ap (λ (x : List ℕ). x ∷ strict_lines (after (b ∷ bs))) (sym (take_front (b ∷ bs)))
    ∙ ap (λ (x : List ℕ). take (position_or_len is_lf (b ∷ bs) + 1) (b ∷ bs) ∷ strict_lines x) (sym (drop_front (b ∷ bs)))

pub line_ended : (text : List ℕ) (n : ℕ) → 0 < length text → Some n ≡ position is_lf text → IsCut text (n + 1)
line_ended text n h e =
    let found = cond_some (nat_lt (position_or_len is_lf text) (length text)) (position_or_len is_lf text) n (sym e) in
    line_at text h ∙ ap (λ (k : ℕ). take (k + 1) text ∷ strict_lines (drop (k + 1) text)) found.1

pub last_line : (text : List ℕ) → 0 < length text → None ≡ position is_lf text → IsCut text (length text)
last_line text h e = go (nat_lt (position_or_len is_lf text) (length text)) refl where
  go : (t : Bool) → nat_lt (position_or_len is_lf text) (length text) ≡ t → IsCut text (length text)
  go true f = absurd (cc)
  go false f =
      let past : length text ≤ position_or_len is_lf text + 1 = omega (arith, ltb-false _ _ f) in
      line_at text h
      ∙ ap (λ (x : List ℕ). x ∷ strict_lines (drop (position_or_len is_lf text + 1) text))
      (take_all (position_or_len is_lf text + 1) text past ∙ sym (take_all (length text) text (omega arith)))
      ∙ ap (λ (x : List ℕ). take (length text) text ∷ strict_lines x)
      (drop_all (position_or_len is_lf text + 1) text past ∙ sym (drop_all (length text) text (omega arith)))

-- a line with a space at this place
abbrev cut_at : List ℕ → ℕ → Words
cut_at line n = record { first = take n line; more = all_words (words_of (drop (suc n) line)) }

abbrev one_word : List ℕ → Words
one_word line = record { first = line; more = [] }

at_space : (line : List ℕ) → position_or_len is_space line < length line → words_of line ≡ cut_at line (position_or_len is_space line)
at_space [] h = absurd (omega arith)
at_space (b ∷ bs) h =
    let place : Bool → ℕ = λ v. cond (not v) (1 + position_or_len is_space bs) 0 in
    let P : Bool → Type 0 = λ v. place v < length (b ∷ bs) → cond v (after_space (words_of bs)) (onto_word b (words_of bs)) ≡ cut_at (b ∷ bs) (place v) in
    (elim (is_space b) as P [ true ↦ λ k. refl | false ↦ λ k. rw (one_plus (position_or_len is_space bs)) (ap (onto_word b) (at_space bs (omega arith))) ]) h

no_space : (line : List ℕ) → length line ≤ position_or_len is_space line → words_of line ≡ one_word line
no_space [] h = refl
no_space (b ∷ bs) h =
    let place : Bool → ℕ = λ v. cond (not v) (1 + position_or_len is_space bs) 0 in
    let P : Bool → Type 0 = λ v. length (b ∷ bs) ≤ place v → cond v (after_space (words_of bs)) (onto_word b (words_of bs)) ≡ one_word (b ∷ bs) in
    (elim (is_space b) as P [ true ↦ λ k. absurd (omega arith) | false ↦ λ k. ap (onto_word b) (no_space bs (omega arith)) ]) h

found : (line : List ℕ) (n : ℕ) (t : Bool) → nat_lt (position_or_len is_space line) (length line) ≡ t →
    Some n ≡ cond t (Some (position_or_len is_space line)) None →
    words_of line ≡ cut_at line n
found line n false e h = cc
found line n true e h =
    let same : n ≡ position_or_len is_space line = cc in
    at_space line (grind arith) ∙ ap (cut_at line) (sym same)

-- how the code cuts a line: at the place of its first space
pub space_cut : (line : List ℕ) (n : ℕ) → Some n ≡ position is_space line →
    words_of line ≡ record { first = take n line; more = all_words (words_of (take (length line - (n + 1)) (drop (n + 1) line))) }
space_cut line n h =
    found line n (nat_lt (position_or_len is_space line) (length line)) refl h
    ∙ ap (λ (k : ℕ). record { first = take n line; more = all_words (words_of (drop k line)) }) (next n)
    ∙ ap (λ (rest : List ℕ). record { first = take n line; more = all_words (words_of rest) }) (sym (take_rest line (n + 1)))
  where
    next : (n : ℕ) → suc n ≡ n + 1
    next n = omega arith

pub uncut : (line : List ℕ) → None ≡ position is_space line → words_of line ≡ one_word line
uncut line h = go (nat_lt (position_or_len is_space line) (length line)) refl h where
  go : (t : Bool) → nat_lt (position_or_len is_space line) (length line) ≡ t → None ≡ cond t (Some (position_or_len is_space line)) None →
      words_of line ≡ one_word line
  go true e k = cc
  go false e k = no_space line (ltb-false _ _ e)
