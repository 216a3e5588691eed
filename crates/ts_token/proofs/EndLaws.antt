-- A line cut with its LF, and the same without its end.
use Rattle.std.proofs.Common.{◌≡◌, ℕ, ◌<◌, ◌≤◌, Bool, true, false, cond, Some, None, List, [], ◌∷◌, ◌++◌, length, drop, get_or, refl, sym, ap, subst, ◌∙◌, arith, append_assoc, append-nil, length-append}
use Rattle.std.specs.Option.{option_map}
use Rattle.std.proofs.Math.Seq.{drop-append_seam}
use Rattle.std.proofs.lemmas.Bool.{eqb-true}
use Rattle.ts_base.specs.Words.{is_lf, onto_line, strict_lines, without_lf}
use Rattle.ts_base.proofs.WordLaws.{lf_is, lf_again}
use Rattle.ts_token.specs.Gist.{first_of, AreEnded, IsLine}
use Rattle.ts_token.specs.Halves.{is_mark, is_separator}
use Rattle.ts_token.specs.Steps.{without_end, bare_by}
use Rattle.ts_token.specs.Text.{lines_of, words_of}
use Rattle.ts_token.proofs.Fronts.{front, ending, passes}
use Rattle.ts_token.proofs.GistLaws.{ended_lf}
use Rattle.ts_token.proofs.LineLaws.{cut_by, first_cut}

-- the strict lines of a line and what follows it
abbrev strict_by : List ℕ → List ℕ → List (List ℕ)
strict_by line [] = line ∷ []
strict_by line (b ∷ after) = (line ++ b ∷ []) ∷ strict_lines after

joins : (b : ℕ) (line rest : List ℕ) → onto_line b (strict_by line rest) ≡ strict_by (b ∷ line) rest
joins b line [] = refl
joins b line (x ∷ after) = refl

strict_cut : (b : ℕ) (bs : List ℕ) → strict_lines (b ∷ bs) ≡ strict_by (front is_lf (b ∷ bs)) (ending is_lf (b ∷ bs))
strict_cut b [] =
    elim (is_lf b) as (λ v. cond v ((b ∷ []) ∷ []) ((b ∷ []) ∷ []) ≡ strict_by (cond v [] (b ∷ [])) (cond v (b ∷ []) [])) [ true ↦ refl | false ↦ refl ]
strict_cut b (c ∷ cs) =
    let ih = strict_cut c cs in
    elim (is_lf b) as (λ v. cond v ((b ∷ []) ∷ strict_lines (c ∷ cs)) (onto_line b (strict_lines (c ∷ cs)))
    ≡ strict_by (cond v [] (b ∷ front is_lf (c ∷ cs))) (cond v (b ∷ c ∷ cs) (ending is_lf (c ∷ cs)))) [
      | true ↦ refl
      | false ↦ ap (onto_line b) ih ∙ joins b (front is_lf (c ∷ cs)) (ending is_lf (c ∷ cs))
    ]

both : (text : List ℕ) → front is_lf text ++ ending is_lf text ≡ text
both [] = refl
both (b ∷ bs) =
    let ih = both bs in
    elim (is_lf b) as (λ v. cond v [] (b ∷ front is_lf bs) ++ cond v (b ∷ bs) (ending is_lf bs) ≡ b ∷ bs) [
      | true ↦ refl
      | false ↦ ap (λ (x : List ℕ). b ∷ x) ih
    ]

no_lf_onto : (b : ℕ) (line : List ℕ) → is_lf b ≡ false → without_lf line ≡ None → without_lf (b ∷ line) ≡ None
unfolding is_lf
no_lf_onto b [] e h = ap (λ v. cond v (Some []) None) e
no_lf_onto b (c ∷ cs) e h = ap (option_map (λ (x : List ℕ). b ∷ x)) h

no_lf : (text : List ℕ) → without_lf (front is_lf text) ≡ None
no_lf [] = refl
no_lf (b ∷ bs) = go (is_lf b) refl (no_lf bs) where
  go : (t : Bool) → is_lf b ≡ t → without_lf (front is_lf bs) ≡ None → without_lf (cond t [] (b ∷ front is_lf bs)) ≡ None
  go true e ih = refl
  go false e ih = no_lf_onto b (front is_lf bs) e ih

lf : (b : ℕ) → is_lf b ≡ true → b ≡ 10
unfolding is_lf
lf b e = eqb-true b 10 e

nothing_left : (rest : List ℕ) → length rest ≡ 0 → lines_of rest ≡ []
nothing_left [] e = refl
nothing_left (b ∷ bs) e = absurd (omega arith)

-- where the first line is cut with its LF, it is the same line without it
pub cut_whole : (text line rest : List ℕ) → 0 < length text → strict_lines text ≡ line ∷ strict_lines rest → text ≡ line ++ rest →
    lines_of text ≡ without_end line ∷ lines_of rest
cut_whole [] line rest some cut whole = absurd (omega arith)
cut_whole (b ∷ bs) line rest some cut whole =
    first_cut b bs
    ∙ go (front is_lf (b ∷ bs)) (ending is_lf (b ∷ bs)) (no_lf (b ∷ bs)) (both (b ∷ bs) ∙ whole) (passes is_lf (b ∷ bs)) (sym (strict_cut b bs) ∙ cut)
  where
    go : (f e : List ℕ) → without_lf f ≡ None → f ++ e ≡ line ++ rest → (0 < length e → is_lf (get_or e 0 0) ≡ true) →
        strict_by f e ≡ line ∷ strict_lines rest → cut_by f e ≡ without_end line ∷ lines_of rest
    go f [] none all ends same =
        let is : f ≡ line = ap first_of same in
        let left : length rest ≡ 0 = omega (arith, ap length is, ap length all, length-append f [], length-append line rest) in
        ap (λ o. bare_by f o ∷ []) (sym none) ∙ ap (λ (x : List ℕ). without_end x ∷ []) is
        ∙ ap (λ (x : List (List ℕ)). without_end line ∷ x) (sym (nothing_left rest left))
    go f (x ∷ after) none all ends same =
        let is : f ++ x ∷ [] ≡ line = ap first_of same in
        let ten : x ≡ 10 = lf x (ends (omega arith)) in
        let again : without_lf line ≡ Some f = ap without_lf (sym is ∙ ap (λ (y : ℕ). f ++ y ∷ []) ten) ∙ lf_again f in
        let behind : after ≡ rest =
        sym (drop-append_seam (f ++ x ∷ []) after) ∙ ap (drop (length (f ++ x ∷ []))) (append_assoc f (x ∷ []) after ∙ all)
        ∙ ap (λ (y : List ℕ). drop (length y) (line ++ rest)) is ∙ drop-append_seam line rest in
        ap (λ o. bare_by line o ∷ lines_of after) (sym again) ∙ ap (λ (y : List ℕ). without_end line ∷ lines_of y) behind

alone_onto : (b : ℕ) (line : List ℕ) → is_lf b ≡ false → strict_lines line ≡ line ∷ [] → strict_lines (b ∷ line) ≡ (b ∷ line) ∷ []
alone_onto b line e h =
    ap (λ v. cond v ((b ∷ []) ∷ strict_lines line) (onto_line b (strict_lines line))) e ∙ ap (onto_line b) h

alone_one : (b : ℕ) → strict_lines (b ∷ []) ≡ (b ∷ []) ∷ []
alone_one b = elim (is_lf b) as (λ v. cond v ((b ∷ []) ∷ []) ((b ∷ []) ∷ []) ≡ (b ∷ []) ∷ []) [ true ↦ refl | false ↦ refl ]

strict_some : (line rest : List ℕ) → 0 < length (strict_by line rest)
strict_some line [] = omega arith
strict_some line (x ∷ after) = omega arith

some_strict : (b : ℕ) (bs : List ℕ) → 0 < length (strict_lines (b ∷ bs))
some_strict b bs =
    subst (λ (x : List (List ℕ)). 0 < length x) (sym (strict_cut b bs)) (strict_some (front is_lf (b ∷ bs)) (ending is_lf (b ∷ bs)))

onto_alone : (b : ℕ) (ls : List (List ℕ)) → is_lf b ≡ false → strict_lines (first_of ls) ≡ first_of ls ∷ [] → 0 < length ls →
    strict_lines (first_of (onto_line b ls)) ≡ first_of (onto_line b ls) ∷ []
onto_alone b [] e h some = absurd (omega arith)
onto_alone b (l ∷ ls) e h some = alone_onto b l e h

-- a line alone is one line
alone : (b : ℕ) (bs : List ℕ) → strict_lines (first_of (strict_lines (b ∷ bs))) ≡ first_of (strict_lines (b ∷ bs)) ∷ []
alone b [] =
    elim (is_lf b) as (λ v. strict_lines (first_of (cond v ((b ∷ []) ∷ []) ((b ∷ []) ∷ []))) ≡ first_of (cond v ((b ∷ []) ∷ []) ((b ∷ []) ∷ [])) ∷ []) [
      | true ↦ alone_one b
      | false ↦ alone_one b
    ]
alone b (c ∷ cs) = go (is_lf b) refl (alone c cs) where
  go : (t : Bool) → is_lf b ≡ t → strict_lines (first_of (strict_lines (c ∷ cs))) ≡ first_of (strict_lines (c ∷ cs)) ∷ [] →
      strict_lines (first_of (cond t ((b ∷ []) ∷ strict_lines (c ∷ cs)) (onto_line b (strict_lines (c ∷ cs)))))
      ≡ first_of (cond t ((b ∷ []) ∷ strict_lines (c ∷ cs)) (onto_line b (strict_lines (c ∷ cs)))) ∷ []
  go true e ih = alone_one b
  go false e ih = onto_alone b (strict_lines (c ∷ cs)) e ih (some_strict c cs)

line_alone : (text line rest : List ℕ) → strict_lines text ≡ line ∷ strict_lines rest → strict_lines line ≡ line ∷ []
line_alone [] line rest cut = absurd (omega (arith, ap length cut))
line_alone (b ∷ bs) line rest cut =
    let is : first_of (strict_lines (b ∷ bs)) ≡ line = ap first_of cut in
    ap strict_lines (sym is) ∙ alone b bs ∙ ap (λ (x : List ℕ). x ∷ []) is

-- a line is a separator by its words, also where it is given with its end
pub marks : (text line : List ℕ) (lines : List (List ℕ)) → lines_of text ≡ line ∷ lines → is_separator text ≡ is_mark (words_of line)
unfolding is_separator
marks text line lines cut = rw (cut) refl

pub line_marks : (text line rest bare : List ℕ) (t : Bool) → 0 < length line → strict_lines text ≡ line ∷ strict_lines rest → bare ≡ without_end line →
    t ≡ is_mark (words_of bare) → is_separator line ≡ t
line_marks text line rest bare t some cut bare_is t_is =
    marks line (without_end line) [] (cut_whole line line [] some (line_alone text line rest cut) (sym (append-nil line)))
    ∙ ap (λ (x : List ℕ). is_mark (words_of x)) (sym bare_is) ∙ sym t_is

-- what is cut with its LF is one line
pub one_line : (text line rest : List ℕ) → 0 < length line → strict_lines text ≡ line ∷ strict_lines rest → IsLine line
one_line text line rest some cut =
    let e = cut_whole line line [] some (line_alone text line rest cut) (sym (append-nil line)) in
    e ∙ ap (λ (x : List ℕ). x ∷ []) (sym (ap first_of e))

rest_strict : (rest : List ℕ) → 0 < length rest → 0 < length (strict_lines rest)
rest_strict [] some = absurd (omega arith)
rest_strict (b ∷ bs) some = some_strict b bs

-- where bytes stand after it, it ends with its LF
pub ended_before : (text line rest : List ℕ) → strict_lines text ≡ line ∷ strict_lines rest → 0 < length rest → AreEnded line
ended_before [] line rest cut some = absurd (omega (arith, ap length cut))
ended_before (b ∷ bs) line rest cut some =
    go (front is_lf (b ∷ bs)) (ending is_lf (b ∷ bs)) (passes is_lf (b ∷ bs)) (sym (strict_cut b bs) ∙ cut)
  where
    go : (f e : List ℕ) → (0 < length e → is_lf (get_or e 0 0) ≡ true) → strict_by f e ≡ line ∷ strict_lines rest → AreEnded line
    go f [] ends same = absurd (omega (arith, ap length same, rest_strict rest some))
    go f (x ∷ after) ends same =
        let is : f ++ x ∷ [] ≡ line = ap first_of same in
        let ten : x ≡ 10 = lf x (ends (omega arith)) in
        subst AreEnded (ap (λ (y : ℕ). f ++ y ∷ []) (sym ten) ∙ is) (ended_lf f)

-- it is no longer without its end
pub end_shorter : (line bare : List ℕ) → without_lf line ≡ Some bare → length bare ≤ length line
end_shorter line bare e = omega (arith, ap length (lf_is line bare e), length-append bare (10 ∷ []))
