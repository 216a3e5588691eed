-- The first words of a line, one after the other.
use Rattle.std.proofs.Common.{◌≡◌, ℕ, zero, suc, ◌+◌, ◌≤◌, List, [], ◌∷◌, ◌++◌, length, take, drop, refl, sym, ap, ◌∙◌, arith, add-one, take_all}
use Rattle.ts_token.specs.declared.words.Word.{Word}
use Rattle.ts_token.specs.Text.{Piece}
use Rattle.ts_token.specs.Views.{piece, pieces}

pieces_more : (ws : List Word) (w : Word) → pieces (ws ++ w ∷ []) ≡ pieces ws ++ piece w ∷ []
pieces_more [] w = refl
pieces_more (v ∷ ws) w = ap (λ (x : List Piece). piece v ∷ x) (pieces_more ws w)

next_one : (n : ℕ) (all rest : List Piece) (w : Piece) → drop n all ≡ w ∷ rest → (take (suc n) all ≡ take n all ++ w ∷ []) × (drop (suc n) all ≡ rest)
next_one zero [] rest w e = cc
next_one zero (x ∷ xs) rest w e = let first : x ≡ w = cc in let others : xs ≡ rest = cc in (ap (λ (y : Piece). y ∷ []) first, others)
next_one (suc n) [] rest w e = cc
next_one (suc n) (x ∷ xs) rest w e = let later = next_one n xs rest w e in (ap (λ (ys : List Piece). x ∷ ys) later.0, later.1)

-- one word more is taken
pub one_taken : (n : ℕ) (all : List Piece) (words more : List Word) (w : Word) (left rest : List Piece) → pieces words ≡ take n all → left ≡ drop n all →
    left ≡ piece w ∷ rest → more ≡ words ++ w ∷ [] → (pieces more ≡ take (n + 1) all) × (rest ≡ drop (n + 1) all)
one_taken n all words more w left rest taken behind are grown =
    let next = next_one n all rest (piece w) (sym behind ∙ are) in (
      ap pieces grown ∙ pieces_more words w ∙ ap (λ (x : List Piece). x ++ piece w ∷ []) taken ∙ sym next.0 ∙ ap (λ (k : ℕ). take k all) (sym (add-one n)),
      sym next.1 ∙ ap (λ (k : ℕ). drop k all) (sym (add-one n)),
    )

few_left : (n : ℕ) (all : List Piece) → drop n all ≡ [] → length all ≤ n
few_left zero [] e = omega arith
few_left zero (x ∷ xs) e = cc
few_left (suc n) [] e = omega arith
few_left (suc n) (x ∷ xs) e = let later = few_left n xs e in omega (arith, later)

-- no word is left
pub none_left : (n most : ℕ) (all : List Piece) (words : List Word) (left : List Piece) → n ≤ most → pieces words ≡ take n all → left ≡ drop n all → left ≡ [] →
    pieces words ≡ take most all
none_left n most all words left within taken behind none =
    let few = few_left n all (sym behind ∙ none) in taken ∙ take_all n all few ∙ sym (take_all most all (omega (arith, few, within)))
