-- The first line of a text.
use Rattle.std.proofs.Common.{◌≡◌, ℕ, Bool, true, false, cond, List, [], ◌∷◌, length, ◌≤◌, take, refl, sym, ap, ◌∙◌, arith, get_or, suc, zero, eq-eqb, ne_eqb}
use Rattle.std.specs.Prelude.{◌==◌}
use Rattle.ts_base.specs.Words.{is_lf, onto_line}
use Rattle.ts_token.specs.Gist.{first_of, without_end}
use Rattle.ts_token.specs.Text.{ends_here, lines_of}
use Rattle.ts_token.specs.Steps.{without_cr}
use Rattle.ts_token.proofs.Fronts.{front, ending}

-- the lines of a line and what follows it
abbrev pub cut_by : List ℕ → List ℕ → List (List ℕ)
cut_by line [] = line ∷ []
cut_by line (b ∷ after) = without_cr line ∷ lines_of after

joins : (b c : ℕ) (cs rest : List ℕ) → onto_line b (cut_by (c ∷ cs) rest) ≡ cut_by (b ∷ c ∷ cs) rest
joins b c cs [] = refl
joins b c cs (x ∷ after) = refl

-- a byte before a line
more : (b c : ℕ) (cs : List ℕ) (lf : Bool) →
    cond (cond (b == 13) lf false) (cut_by (cond lf [] (c ∷ front is_lf cs)) (cond lf (c ∷ cs) (ending is_lf cs)))
    (onto_line b (cut_by (cond lf [] (c ∷ front is_lf cs)) (cond lf (c ∷ cs) (ending is_lf cs))))
    ≡ cut_by (b ∷ cond lf [] (c ∷ front is_lf cs)) (cond lf (c ∷ cs) (ending is_lf cs))
more b c cs true =
    elim (b == 13) as (λ v. cond (cond v true false) ([] ∷ lines_of cs) ((b ∷ []) ∷ lines_of cs) ≡ cond v [] (b ∷ []) ∷ lines_of cs) [
      | true ↦ refl
      | false ↦ refl
    ]
more b c cs false =
    elim (b == 13) as (λ v. cond (cond v false false) (cut_by (c ∷ front is_lf cs) (ending is_lf cs))
    (onto_line b (cut_by (c ∷ front is_lf cs) (ending is_lf cs))) ≡ cut_by (b ∷ c ∷ front is_lf cs) (ending is_lf cs)) [
      | true ↦ joins b c (front is_lf cs) (ending is_lf cs)
      | false ↦ joins b c (front is_lf cs) (ending is_lf cs)
    ]

last_line : (b : ℕ) → cond (cond (b == 13) false false) [] ((b ∷ []) ∷ []) ≡ (b ∷ []) ∷ []
last_line b = elim (b == 13) as (λ v. cond (cond v false false) [] ((b ∷ []) ∷ []) ≡ (b ∷ []) ∷ []) [ true ↦ refl | false ↦ refl ]

pub first_cut : (b : ℕ) (bs : List ℕ) → lines_of (b ∷ bs) ≡ cut_by (front is_lf (b ∷ bs)) (ending is_lf (b ∷ bs))
first_cut b [] =
    elim (is_lf b) as (λ v. cond v ([] ∷ []) (cond (cond (b == 13) false false) [] ((b ∷ []) ∷ [])) ≡ cut_by (cond v [] (b ∷ [])) (cond v (b ∷ []) [])) [
      | true ↦ refl
      | false ↦ last_line b
    ]
first_cut b (c ∷ cs) =
    let ih = first_cut c cs in
    elim (is_lf b) as (λ v. cond v ([] ∷ lines_of (c ∷ cs)) (cond (cond (b == 13) (is_lf c) false) (lines_of (c ∷ cs)) (onto_line b (lines_of (c ∷ cs))))
    ≡ cut_by (cond v [] (b ∷ front is_lf (c ∷ cs))) (cond v (b ∷ c ∷ cs) (ending is_lf (c ∷ cs)))) [
      | true ↦ refl
      | false ↦ ap (λ (x : List (List ℕ)). cond (cond (b == 13) (is_lf c) false) x (onto_line b x)) ih ∙ more b c cs (is_lf c)
    ]

-- a CR at the end, or none
pub cr_cut : (n : ℕ) (xs : List ℕ) → length xs ≡ suc n → get_or xs n 0 ≡ 13 → take n xs ≡ without_cr xs
cr_cut zero [] e h = absurd (omega arith)
cr_cut zero (b ∷ []) e h = ap (λ v. cond v [] (b ∷ [])) (sym (eq-eqb b 13 h))
cr_cut zero (b ∷ c ∷ cs) e h = absurd (omega arith)
cr_cut (suc n) [] e h = absurd (omega arith)
cr_cut (suc n) (b ∷ []) e h = absurd (omega arith)
cr_cut (suc n) (b ∷ c ∷ cs) e h = ap (λ (x : List ℕ). b ∷ x) (cr_cut n (c ∷ cs) (omega arith) h)

pub cr_kept : (n : ℕ) (xs : List ℕ) → length xs ≡ suc n → (get_or xs n 0 ≡ 13 → ⊥) → xs ≡ without_cr xs
cr_kept zero [] e h = absurd (omega arith)
cr_kept zero (b ∷ []) e h = ap (λ v. cond v [] (b ∷ [])) (sym (ne_eqb b 13 h))
cr_kept zero (b ∷ c ∷ cs) e h = absurd (omega arith)
cr_kept (suc n) [] e h = absurd (omega arith)
cr_kept (suc n) (b ∷ []) e h = absurd (omega arith)
cr_kept (suc n) (b ∷ c ∷ cs) e h = ap (λ (x : List ℕ). b ∷ x) (cr_kept n (c ∷ cs) (omega arith) h)

pub cr_none : (xs : List ℕ) → length xs ≡ 0 → xs ≡ without_cr xs
cr_none [] e = refl
cr_none (b ∷ bs) e = absurd (omega arith)

-- a text has no more lines than bytes

joined_few : (b : ℕ) (lines : List (List ℕ)) → length (onto_line b lines) ≤ suc (length lines)
joined_few b [] = omega arith
joined_few b (line ∷ lines) = omega arith

pub text_lines_few : (text : List ℕ) → length (lines_of text) ≤ length text
text_lines_few [] = omega arith
text_lines_few (b ∷ bs) =
    let later = text_lines_few bs in
    let more = joined_few b (lines_of bs) in
    by (is_lf b) (cond (b == 13) (ends_here bs) false) later more
  where
    by : (t u : Bool) → length (lines_of bs) ≤ length bs → length (onto_line b (lines_of bs)) ≤ suc (length (lines_of bs)) →
        length (cond t ([] ∷ lines_of bs) (cond u (lines_of bs) (onto_line b (lines_of bs)))) ≤ suc (length bs)
    by true u later more = omega (arith, later)
    by false true later more = omega (arith, later)
    by false false later more = omega (arith, later, more)

-- a line is no longer without its end

onto_within : (b : ℕ) (lines : List (List ℕ)) → length (first_of (onto_line b lines)) ≤ suc (length (first_of lines))
onto_within b [] = omega arith
onto_within b (line ∷ lines) = omega arith

pub end_within : (line : List ℕ) → length (without_end line) ≤ length line
end_within [] = omega arith
end_within (b ∷ bs) =
    let later = end_within bs in
    let more = onto_within b (lines_of bs) in
    by (is_lf b) (cond (b == 13) (ends_here bs) false) later more
  where
    by : (t u : Bool) → length (first_of (lines_of bs)) ≤ length bs → length (first_of (onto_line b (lines_of bs))) ≤ suc (length (first_of (lines_of bs))) →
        length (first_of (cond t ([] ∷ lines_of bs) (cond u (lines_of bs) (onto_line b (lines_of bs))))) ≤ suc (length bs)
    by true u later more = omega (arith, later)
    by false true later more = omega (arith, later)
    by false false later more = omega (arith, later, more)
