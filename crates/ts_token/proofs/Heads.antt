-- The first bytes of the words of a line, where bytes after others are left out.
use Rattle.std.proofs.Common.{◌≡◌, ℕ, ◌+◌, ◌≤◌, Bool, true, false, cond, Some, None, List, [], ◌∷◌, ◌++◌, length, take, refl, sym, ap, ◌∙◌, arith, take-take, ◌==◌}
use Rattle.std.proofs.lemmas.List.{take-append-le}
use Rattle.std.specs.Prelude.{Option}
use Rattle.std.specs.List.{list_all}
use Rattle.std.proofs.lemmas.Bool.{not-true, and_parts}
use Rattle.ts_token.specs.Text.{is_blank, is_text, stops_here, onto_word, words_from, words_of, Piece, is_skipped, starts_hash}
use Rattle.ts_token.specs.Gist.{heads, gist}
use Rattle.ts_token.specs.Places.{is_comment}
use Rattle.ts_token.specs.Steps.{is_solid}
use Rattle.ts_token.proofs.Fronts.{front, ending}

-- the byte joins the first word
abbrev onto_head : ℕ → List (List ℕ) → List (List ℕ)
onto_head b [] = []
onto_head b (h ∷ hs) = take 64 (b ∷ h) ∷ hs

-- the first bytes of the words, without columns
abbrev pub word_heads : List ℕ → List (List ℕ)
word_heads [] = []
word_heads (b ∷ bs) = cond (is_blank b) (word_heads bs) (cond (stops_here bs) ((b ∷ []) ∷ word_heads bs) (onto_head b (word_heads bs)))

once : (b : ℕ) (bs : List ℕ) → take 64 (b ∷ take 64 bs) ≡ take 64 (b ∷ bs)
once b bs = ap (λ (x : List ℕ). b ∷ x) (take-take 63 64 bs (omega arith))

heads_onto : (b column : ℕ) (ws : List Piece) → heads (onto_word b column ws) ≡ onto_head b (heads ws)
heads_onto b column [] = refl
heads_onto b column (w ∷ ws) = ap (λ (x : List ℕ). x ∷ heads ws) (sym (once b w.text))

heads_by : (b column : ℕ) (blank stops : Bool) (ws : List Piece) (hs : List (List ℕ)) → heads ws ≡ hs →
    heads (cond blank ws (cond stops (record { text = b ∷ []; column = column } ∷ ws) (onto_word b column ws)))
    ≡ cond blank hs (cond stops ((b ∷ []) ∷ hs) (onto_head b hs))
heads_by b column true stops ws hs e = e
heads_by b column false true ws hs e = ap (λ (x : List (List ℕ)). (b ∷ []) ∷ x) e
heads_by b column false false ws hs e = heads_onto b column ws ∙ ap (onto_head b) e

pub heads_are : (column : ℕ) (line : List ℕ) → heads (words_from column line) ≡ word_heads line
heads_are column [] = refl
heads_are column (b ∷ bs) = heads_by b column (is_blank b) (stops_here bs) (words_from (column + 1) bs) (word_heads bs) (heads_are (column + 1) bs)

-- both lines go on alike after whatever stands before
pub record AreAlike (x y : List ℕ) : Type 0 where
  pub words : word_heads x ≡ word_heads y
  pub stops : stops_here x ≡ stops_here y

alike_step : (b : ℕ) (x y : List ℕ) → AreAlike x y → AreAlike (b ∷ x) (b ∷ y)
alike_step b x y same = record {
  words =
      ap (λ v. cond (is_blank b) (word_heads x) (cond v ((b ∷ []) ∷ word_heads x) (onto_head b (word_heads x)))) same.stops
      ∙ ap (λ (hs : List (List ℕ)). cond (is_blank b) hs (cond (stops_here y) ((b ∷ []) ∷ hs) (onto_head b hs))) same.words;
  stops = refl;
}

pub alike_behind : (before x y : List ℕ) → AreAlike x y → AreAlike (before ++ x) (before ++ y)
alike_behind [] x y same = same
alike_behind (b ∷ bs) x y same = alike_step b (bs ++ x) (bs ++ y) (alike_behind bs x y same)

head_step : (b c : ℕ) (cs : List ℕ) (t : Bool) → is_blank c ≡ t →
    (is_blank c ≡ false → word_heads (c ∷ cs) ≡ take 64 (c ∷ front is_blank cs) ∷ word_heads (ending is_blank cs)) →
    cond t ((b ∷ []) ∷ word_heads (c ∷ cs)) (onto_head b (word_heads (c ∷ cs)))
    ≡ take 64 (b ∷ cond t [] (c ∷ front is_blank cs)) ∷ word_heads (cond t (c ∷ cs) (ending is_blank cs))
head_step b c cs true e later = refl
head_step b c cs false e later = ap (onto_head b) (later e) ∙ ap (λ (x : List ℕ). x ∷ word_heads (ending is_blank cs)) (once b (c ∷ front is_blank cs))

-- a word at the front
pub first_head : (b : ℕ) (bs : List ℕ) → is_blank b ≡ false → word_heads (b ∷ bs) ≡ take 64 (b ∷ front is_blank bs) ∷ word_heads (ending is_blank bs)
first_head b [] solid = ap (λ v. cond v [] ((b ∷ []) ∷ [])) solid
first_head b (c ∷ cs) solid =
    ap (λ v. cond v (word_heads (c ∷ cs)) (cond (is_blank c) ((b ∷ []) ∷ word_heads (c ∷ cs)) (onto_head b (word_heads (c ∷ cs))))) solid
    ∙ head_step b c cs (is_blank c) refl (first_head c cs)

-- a word goes on
front_on : (word rest : List ℕ) → list_all is_solid word ≡ true → front is_blank (word ++ rest) ≡ word ++ front is_blank rest
front_on [] rest solid = refl
front_on (b ∷ bs) rest solid =
    let s = and_parts (is_solid b) (list_all is_solid bs) solid in
    ap (λ v. cond v [] (b ∷ front is_blank (bs ++ rest))) (not-true (is_blank b) s.0) ∙ ap (λ (x : List ℕ). b ∷ x) (front_on bs rest s.1)

ending_on : (word rest : List ℕ) → list_all is_solid word ≡ true → ending is_blank (word ++ rest) ≡ ending is_blank rest
ending_on [] rest solid = refl
ending_on (b ∷ bs) rest solid =
    let s = and_parts (is_solid b) (list_all is_solid bs) solid in
    ap (λ v. cond v (b ∷ bs ++ rest) (ending is_blank (bs ++ rest))) (not-true (is_blank b) s.0) ∙ ending_on bs rest s.1

-- the words of a line that begins with these bytes
head_on : (b : ℕ) (bs rest : List ℕ) → list_all is_solid (b ∷ bs) ≡ true → 64 ≤ length (b ∷ bs) →
    word_heads ((b ∷ bs) ++ rest) ≡ take 64 (b ∷ bs) ∷ word_heads (ending is_blank rest)
head_on b bs rest solid long =
    let s = and_parts (is_solid b) (list_all is_solid bs) solid in
    first_head b (bs ++ rest) (not-true (is_blank b) s.0)
    ∙ ap (λ (x : List ℕ). take 64 (b ∷ x) ∷ word_heads (ending is_blank (bs ++ rest))) (front_on bs rest s.1)
    ∙ ap (λ (x : List ℕ). x ∷ word_heads (ending is_blank (bs ++ rest))) (take-append-le 64 (b ∷ bs) (front is_blank rest) long)
    ∙ ap (λ (x : List ℕ). take 64 (b ∷ bs) ∷ word_heads x) (ending_on bs rest s.1)

-- one byte more of a long word
pub long_alike : (word rest : List ℕ) (b : ℕ) → list_all is_solid word ≡ true → is_blank b ≡ false → 64 ≤ length word →
    AreAlike (word ++ rest) (word ++ b ∷ rest)
long_alike [] rest b solid more long = absurd (omega arith)
long_alike (c ∷ cs) rest b solid more long = record {
  words =
      head_on c cs rest solid long
      ∙ ap (λ (x : List ℕ). take 64 (c ∷ cs) ∷ word_heads x) (ap (λ v. cond v (b ∷ rest) (ending is_blank rest)) (sym more))
      ∙ sym (head_on c cs (b ∷ rest) solid long);
  stops = refl;
}

-- one blank more
pub blank_alike : (c b : ℕ) (rest : List ℕ) → is_blank c ≡ true → is_blank b ≡ true → AreAlike (c ∷ rest) (c ∷ b ∷ rest)
blank_alike c b rest one more = record {
  words =
      ap (λ v. cond v (word_heads rest) (cond (stops_here rest) ((c ∷ []) ∷ word_heads rest) (onto_head c (word_heads rest)))) one
      ∙ sym (ap (λ v. cond v (word_heads rest) (cond (stops_here rest) ((b ∷ []) ∷ word_heads rest) (onto_head b (word_heads rest)))) more)
      ∙ sym (ap (λ v. cond v (word_heads (b ∷ rest)) (cond (is_blank b) ((c ∷ []) ∷ word_heads (b ∷ rest)) (onto_head c (word_heads (b ∷ rest))))) one);
  stops = refl;
}

abbrev pub passed_over : List (List ℕ) → Bool
passed_over [] = true
passed_over (h ∷ hs) = starts_hash h

hash_kept : (w : List ℕ) → starts_hash w ≡ starts_hash (take 64 w)
hash_kept [] = refl
hash_kept (b ∷ bs) = refl

skipped_by : (ws : List Piece) → is_skipped ws ≡ passed_over (heads ws)
skipped_by [] = refl
skipped_by (w ∷ ws) = hash_kept w.text

abbrev pub gist_by : Bool → List (List ℕ) → Option (List (List ℕ))
gist_by text hs = cond text (Some (cond (passed_over hs) [] hs)) None

-- the gist of a line by the first bytes of its words
pub gist_is : (line : List ℕ) → gist line ≡ gist_by (is_text line) (word_heads line)
gist_is line =
    ap (λ v. cond (is_text line) (Some (cond v [] (heads (words_of line)))) None) (skipped_by (words_of line))
    ∙ ap (gist_by (is_text line)) (heads_are 1 line)

comment_step : (b : ℕ) (bs rest : List ℕ) (t : Bool) → is_blank b ≡ t → cond t (is_comment bs) (b == 35) ≡ true →
    (is_comment bs ≡ true → passed_over (word_heads (bs ++ rest)) ≡ true) → passed_over (word_heads (b ∷ bs ++ rest)) ≡ true
comment_step b bs rest true e is later =
    ap (λ v. passed_over (cond v (word_heads (bs ++ rest)) (cond (stops_here (bs ++ rest)) ((b ∷ []) ∷ word_heads (bs ++ rest))
    (onto_head b (word_heads (bs ++ rest)))))) e ∙ later is
comment_step b bs rest false e is later = ap passed_over (first_head b (bs ++ rest) e) ∙ is

-- a comment is skipped, whatever comes after
pub comment_passed : (k rest : List ℕ) → is_comment k ≡ true → passed_over (word_heads (k ++ rest)) ≡ true
comment_passed [] rest is = cc
comment_passed (b ∷ bs) rest is = comment_step b bs rest (is_blank b) refl is (comment_passed bs rest)
