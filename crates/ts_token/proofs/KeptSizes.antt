-- How few bytes of a line are kept.
use Rattle.std.proofs.Common.{◌≡◌, ℕ, ◌+◌, ◌*◌, ◌<◌, ◌≤◌, Bool, true, false, cond, not, Some, None, List, [], ◌∷◌, ◌++◌, ◌⊎◌, inl, inr, length, refl, sym, ap, subst, ◌∙◌, arith, append_assoc, length-append, nat_lt, ◌==◌, eqb-true}
use Rattle.std.specs.Prelude.{Option}
use Rattle.std.proofs.lemmas.Bool.{ltb-true}
use Rattle.ts_base.specs.Words.{is_lf}
use Rattle.ts_token.specs.declared.short.Place.{Place}
use Rattle.ts_token.specs.declared.short.Place.TheVariants.{Start, Margin, Blank, Word, Comment, Return, NotText, Ended}
use Rattle.ts_token.specs.Places.{EndsBlank, IsAt, IsSmallAt, IsSmallEnded, blank_place, solid_place, text_place, place_on, place_after}
use Rattle.ts_token.specs.Slices.{after_lf}
use Rattle.ts_token.specs.Text.{is_blank, is_plain, stops_here, onto_word, words_from, words_of, Piece}
use Rattle.ts_token.proofs.PlaceLaws.{ends_blank}

-- the number of words, without columns
abbrev words_in : List ℕ → ℕ
words_in [] = 0
words_in (b ∷ bs) = cond (is_blank b) (words_in bs) (cond (stops_here bs) (1 + words_in bs) (words_in bs))

onto_size : (b column : ℕ) (ws : List Piece) → length (onto_word b column ws) ≡ length ws
onto_size b column [] = refl
onto_size b column (w ∷ ws) = refl

size_by : (b column : ℕ) (blank stops : Bool) (ws : List Piece) (n : ℕ) → length ws ≡ n →
    length (cond blank ws (cond stops (record { text = b ∷ []; column = column } ∷ ws) (onto_word b column ws))) ≡ cond blank n (cond stops (1 + n) n)
size_by b column true stops ws n e = e
size_by b column false true ws n e = omega (arith, e)
size_by b column false false ws n e = onto_size b column ws ∙ e

words_size : (column : ℕ) (line : List ℕ) → length (words_from column line) ≡ words_in line
words_size column [] = refl
words_size column (b ∷ bs) =
    size_by b column (is_blank b) (stops_here bs) (words_from (column + 1) bs) (words_in bs) (words_size (column + 1) bs)

-- a line that goes on further has as many words, or more by so many
behind : (x d : ℕ) (us vs : List ℕ) → stops_here us ≡ stops_here vs → words_in us + d ≤ words_in vs → words_in (x ∷ us) + d ≤ words_in (x ∷ vs)
behind x d us vs stops few =
    subst (λ (s : Bool). words_in (x ∷ us) + d ≤ cond (is_blank x) (words_in vs) (cond s (1 + words_in vs) (words_in vs))) stops
    (go (is_blank x) (stops_here us))
  where
    go : (blank s : Bool) →
        cond blank (words_in us) (cond s (1 + words_in us) (words_in us)) + d ≤ cond blank (words_in vs) (cond s (1 + words_in vs) (words_in vs))
    go true s = few
    go false true = omega (arith, few)
    go false false = few

one_in : (b : ℕ) → is_blank b ≡ false → words_in (b ∷ []) ≡ 1
one_in b solid = ap (λ v. cond v 0 1) solid

grows_in : (line : List ℕ) (b : ℕ) → words_in line + 0 ≤ words_in (line ++ b ∷ [])
grows_in [] b = omega arith
grows_in (x ∷ []) b = go (is_blank x) (is_blank b)
  where
    go : (blank s : Bool) → cond blank 0 1 + 0 ≤ cond blank (cond s 0 1) (cond s (1 + cond s 0 1) (cond s 0 1))
    go true s = omega arith
    go false true = omega arith
    go false false = omega arith
grows_in (x ∷ y ∷ ys) b = behind x 0 (y ∷ ys) (y ∷ ys ++ b ∷ []) refl (grows_in (y ∷ ys) b)

rises_in : (front : List ℕ) (blank b : ℕ) → is_blank blank ≡ true → is_blank b ≡ false →
    words_in (front ++ blank ∷ []) + 1 ≤ words_in (front ++ blank ∷ b ∷ [])
rises_in [] blank b is solid =
    let few : words_in (blank ∷ []) ≡ 0 = ap (λ v. cond v 0 1) is in
    let more : words_in (blank ∷ b ∷ []) ≡ 1 =
    ap (λ v. cond v (words_in (b ∷ [])) (cond (is_blank b) (1 + words_in (b ∷ [])) (words_in (b ∷ [])))) is ∙ one_in b solid in
    omega (arith, few, more)
rises_in (x ∷ []) blank b is solid = behind x 1 (blank ∷ []) (blank ∷ b ∷ []) refl (rises_in [] blank b is solid)
rises_in (x ∷ y ∷ ys) blank b is solid = behind x 1 (y ∷ ys ++ blank ∷ []) (y ∷ ys ++ blank ∷ b ∷ []) refl (rises_in (y ∷ ys) blank b is solid)

-- a line has no fewer words with one more byte
grows : (line : List ℕ) (b : ℕ) → length (words_of line) ≤ length (words_of (line ++ b ∷ []))
grows line b =
    let few = words_size 1 line in
    let more = words_size 1 (line ++ b ∷ []) in
    let in_all = grows_in line b in
    omega (arith, few, more, in_all)

first : (b : ℕ) → is_blank b ≡ false → length (words_of (b ∷ [])) ≡ 1
first b solid = words_size 1 (b ∷ []) ∙ one_in b solid

next : (line : List ℕ) (b : ℕ) → EndsBlank line → is_blank b ≡ false → length (words_of line) + 1 ≤ length (words_of (line ++ b ∷ []))
next line b ends solid =
    subst (λ (x : List ℕ). length (words_of x) + 1 ≤ length (words_of (x ++ b ∷ []))) (sym ends.parts)
    (let few = words_size 1 (ends.front ++ ends.blank ∷ []) in
    let more = words_size 1 (ends.front ++ ends.blank ∷ b ∷ []) in
    let same = ap (λ (x : List ℕ). length (words_of x)) (append_assoc ends.front (ends.blank ∷ []) (b ∷ [])) in
    let in_all = rises_in ends.front ends.blank b ends.is solid in
    omega (arith, few, more, same, in_all))

-- one byte more: it is kept and leads on, or adds nothing
abbrev IsSmallBehind : Place → List ℕ → ℕ → ℕ → Option Place → Type 0
IsSmallBehind p line b k (Some q) = IsSmallAt q (line ++ b ∷ []) (k + 1)
IsSmallBehind p line b k None = IsSmallAt p (line ++ b ∷ []) k

begins : (p : Place) (line : List ℕ) (b k : ℕ) → k ≤ 1 → 0 < length (words_of (line ++ b ∷ [])) →
    IsSmallBehind p line b k (cond (b == 35) (Some Comment) (Some (Word 1)))
begins p line b k few some = go (b == 35)
  where
    go : (hash : Bool) → IsSmallBehind p line b k (cond hash (Some Comment) (Some (Word 1)))
    go true = omega (arith, few, some)
    go false = (omega arith, omega (arith, few, some))

on_word : (line : List ℕ) (b k n : ℕ) → n ≤ 64 → k + 64 ≤ 65 * length (words_of line) + n →
    IsSmallBehind (Word n) line b k (cond (nat_lt n 64) (Some (Word (n + 1))) None)
on_word line b k n short few = go (nat_lt n 64) refl
  where
    more : length (words_of line) ≤ length (words_of (line ++ b ∷ []))
    more = grows line b

    go : (t : Bool) → nat_lt n 64 ≡ t → IsSmallBehind (Word n) line b k (cond t (Some (Word (n + 1))) None)
    go true e = let less = ltb-true n 64 e in (omega (arith, less), omega (arith, few, more))
    go false e = (short, omega (arith, few, more))

on_text : (p : Place) (line : List ℕ) (b k : ℕ) → k ≤ 65 * length (words_of line) + 1 → (is_blank b ≡ true → IsSmallBehind p line b k (blank_place p)) →
    (is_blank b ≡ false → IsSmallBehind p line b k (solid_place p b)) → IsSmallBehind p line b k (text_place p b)
on_text p line b k few on_blank on_solid = go (b == 13) (is_plain b) (is_blank b) refl
  where
    more : length (words_of line) ≤ length (words_of (line ++ b ∷ []))
    more = grows line b

    go : (cr plain blank : Bool) → is_blank b ≡ blank →
        IsSmallBehind p line b k (cond cr (Some Return) (cond (not plain) (Some NotText) (cond blank (blank_place p) (solid_place p b))))
    go true plain blank e = omega (arith, few, more)
    go false false blank e = omega (arith, few, more)
    go false true true e = on_blank e
    go false true false e = on_solid e

ended_on : (line : List ℕ) (b k : ℕ) → IsSmallEnded line k → IsSmallEnded (line ++ b ∷ []) (k + 1)
ended_on line b k ended =
    let more = grows line b in
    let few = ended.few in
    let size = length-append ended.rest (b ∷ []) in
    record {
      front = ended.front;
      rest = ended.rest ++ b ∷ [];
      parts = ap (λ (x : List ℕ). x ++ b ∷ []) ended.parts ∙ append_assoc ended.front (10 ∷ ended.rest) (b ∷ []);
      few = omega (arith, more, few, size);
    }

by_place : (p : Place) (line kept : List ℕ) (b : ℕ) → IsAt p kept → IsSmallAt p line (length kept) →
    IsSmallBehind p line b (length kept) (place_on p b)
by_place Start line kept b at small =
    let none = ap length at in
    let few : length kept ≤ 1 = omega (arith, none) in
    on_text Start line b (length kept) (omega (arith, few)) (λ blank. (ends_blank line b blank, omega (arith, none)))
    (λ solid. begins Start line b (length kept) few
    (let one = ap (λ (x : List ℕ). length (words_of (x ++ b ∷ []))) small ∙ first b solid in omega (arith, one)))
by_place Margin line kept b at small =
    let few = small.1 in
    on_text Margin line b (length kept) (omega (arith, few)) (λ blank. (ends_blank line b blank, few))
    (λ solid. begins Margin line b (length kept) few (let more = next line b small.0 solid in omega (arith, more)))
by_place Blank line kept b at small =
    let few = small.1 in
    let more = grows line b in
    on_text Blank line b (length kept) few (λ blank. (ends_blank line b blank, omega (arith, few, more)))
    (λ solid. (omega arith, let word = next line b small.0 solid in omega (arith, few, word)))
by_place (Word n) line kept b at small =
    let short = small.0 in
    let few = small.1 in
    let more = grows line b in
    on_text (Word n) line b (length kept) (omega (arith, short, few)) (λ blank. (ends_blank line b blank, omega (arith, short, few, more)))
    (λ solid. on_word line b (length kept) n short few)
by_place Comment line kept b at small =
    let more = grows line b in
    on_text Comment line b (length kept) (omega (arith, small)) (λ blank. omega (arith, small, more)) (λ solid. omega (arith, small, more))
by_place Return line kept b at small = let more = grows line b in omega (arith, small, more)
by_place NotText line kept b at small = let more = grows line b in omega (arith, small, more)
by_place Ended line kept b at small = ended_on line b (length kept) small

-- where the line is text, or isn't, so far
few_before : (p : Place) (line kept : List ℕ) → IsAt p kept → IsSmallAt p line (length kept) →
    (length kept ≤ 65 * length (words_of line) + 3) ⊎ IsSmallEnded line (length kept)
few_before Start line kept at small = let none = ap length at in inl (omega (arith, none))
few_before Margin line kept at small = let few = small.1 in inl (omega (arith, few))
few_before Blank line kept at small = let few = small.1 in inl (omega (arith, few))
few_before (Word n) line kept at small = let short = small.0 in let few = small.1 in inl (omega (arith, short, few))
few_before Comment line kept at small = inl (omega (arith, small))
few_before Return line kept at small = inl (omega (arith, small))
few_before NotText line kept at small = inl small
few_before Ended line kept at small = inr small

at_end : (line : List ℕ) (b k : ℕ) → b ≡ 10 → (k ≤ 65 * length (words_of line) + 3) ⊎ IsSmallEnded line k → IsSmallEnded (line ++ b ∷ []) (k + 1)
at_end line b k is (inl few) =
    let more = grows line b in
    record {
      front = line;
      rest = [];
      parts = ap (λ (x : ℕ). line ++ x ∷ []) is;
      few = omega (arith, few, more);
    }
at_end line b k is (inr ended) = ended_on line b k ended

behind_byte : (p : Place) (line kept : List ℕ) (b : ℕ) → IsAt p kept → IsSmallAt p line (length kept) →
    IsSmallBehind p line b (length kept) (place_after p b)
behind_byte p line kept b at small = go (b == 10) refl
  where
    go : (lf : Bool) → b == 10 ≡ lf → IsSmallBehind p line b (length kept) (cond lf (Some Ended) (place_on p b))
    go true e = at_end line b (length kept) (eqb-true b 10 e) (few_before p line kept at small)
    go false e = by_place p line kept b at small

pub small_kept : (p q : Place) (line old new : List ℕ) (b : ℕ) → IsAt p old → IsSmallAt p line (length old) → place_after p b ≡ Some q → new ≡ old ++ b ∷ [] →
    IsSmallAt q (line ++ b ∷ []) (length new)
small_kept p q line old new b at small after is =
    let size : length new ≡ length old + 1 = ap length is ∙ length-append old (b ∷ []) in
    subst (IsSmallAt q (line ++ b ∷ [])) (sym size)
    (subst (IsSmallBehind p line b (length old)) after (behind_byte p line old b at small))

pub small_left : (p : Place) (line kept : List ℕ) (b : ℕ) → IsAt p kept → IsSmallAt p line (length kept) → place_after p b ≡ None →
    IsSmallAt p (line ++ b ∷ []) (length kept)
small_left p line kept b at small after = subst (IsSmallBehind p line b (length kept)) after (behind_byte p line kept b at small)

past_lf : (front rest : List ℕ) → length rest ≤ length (after_lf (front ++ 10 ∷ rest))
unfolding is_lf
past_lf [] rest = omega arith
past_lf (b ∷ bs) rest = go (b == 10) (past_lf bs rest)
  where
    go : (lf : Bool) → length rest ≤ length (after_lf (bs ++ 10 ∷ rest)) → length rest ≤ length (cond lf (bs ++ 10 ∷ rest) (after_lf (bs ++ 10 ∷ rest)))
    go true later = let size = length-append bs (10 ∷ rest) in omega (arith, size)
    go false later = later

-- the bound without the place
pub few_kept : (p : Place) (line kept : List ℕ) → IsAt p kept → IsSmallAt p line (length kept) →
    length kept ≤ 65 * length (words_of line) + 4 + length (after_lf line)
few_kept p line kept at small = by (few_before p line kept at small)
  where
    by : (length kept ≤ 65 * length (words_of line) + 3) ⊎ IsSmallEnded line (length kept) →
        length kept ≤ 65 * length (words_of line) + 4 + length (after_lf line)
    by (inl few) = omega (arith, few)
    by (inr ended) =
        let few = ended.few in
        let rest = subst (λ (x : List ℕ). length ended.rest ≤ length (after_lf x)) (sym ended.parts) (past_lf ended.front ended.rest) in
        omega (arith, few, rest)
