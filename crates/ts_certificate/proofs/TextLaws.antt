-- The text of lines, part by part.
use Rattle.std.proofs.Common.{◌≡◌, ℕ, ◌+◌, ◌<◌, List, [], ◌∷◌, ◌++◌, length, drop, get_or, refl, sym, ap, ◌∙◌, append_assoc, append-nil}
use Rattle.std.proofs.lemmas.List.{at_drop_more}
use Rattle.ts_certificate.specs.Grammar.{CertLine, line_text}
use Rattle.ts_certificate.specs.Certificate.{lines_text}

pub lines_text-append : (xs ys : List CertLine) → lines_text (xs ++ ys) ≡ lines_text xs ++ lines_text ys
lines_text-append [] ys = refl
lines_text-append (x ∷ xs) ys = ap (λ (t : List ℕ). line_text x ++ t) (lines_text-append xs ys)
    ∙ sym (append_assoc (line_text x) (lines_text xs) (lines_text ys))

-- one more part is after the text; `all` is the text of all parts
pub one_more : {A : Type 0} (part : A → List ℕ) (all : List A → List ℕ) → ((x : A) (xs : List A) → all (x ∷ xs) ≡ part x ++ all xs) →
    (xs : List A) (i : ℕ) (d : A) (old new whole : List ℕ) → i < length xs → new ≡ old ++ part (get_or xs i d) →
    old ++ all (drop i xs) ≡ whole → new ++ all (drop (i + 1) xs) ≡ whole
one_more part all law xs i d old new whole low is so_far =
    ap (λ (t : List ℕ). t ++ all (drop (i + 1) xs)) is ∙ append_assoc old (part (get_or xs i d)) (all (drop (i + 1) xs))
    ∙ ap (λ (t : List ℕ). old ++ t) (sym (at_drop_more all xs i d low ∙ law (get_or xs i d) (drop (i + 1) xs))) ∙ so_far

pub five_parts : (aim claim : List ℕ) (series tree : List CertLine) (last : CertLine) (t0 t1 t2 t3 t4 t5 : List ℕ) → t0 ≡ [] → t1 ≡ t0 ++ aim →
    t2 ≡ t1 ++ claim → t3 ≡ t2 ++ lines_text series → t4 ≡ t3 ++ lines_text tree → t5 ≡ t4 ++ line_text last →
    t5 ≡ aim ++ (claim ++ lines_text (series ++ (tree ++ last ∷ [])))
five_parts aim claim series tree last t0 t1 t2 t3 t4 t5 e0 e1 e2 e3 e4 e5 =
    e5 ∙ ap (λ (t : List ℕ). t ++ line_text last) (e4 ∙ ap (λ (t : List ℕ). t ++ lines_text tree)
    (e3 ∙ ap (λ (t : List ℕ). t ++ lines_text series) (e2 ∙ ap (λ (t : List ℕ). t ++ claim) (e1 ∙ ap (λ (t : List ℕ). t ++ aim) e0))))
    ∙ append_assoc (aim ++ claim ++ lines_text series) (lines_text tree) (line_text last)
    ∙ ap (λ (t : List ℕ). aim ++ claim ++ lines_text series ++ (lines_text tree ++ t)) (sym (append-nil (line_text last)))
    ∙ ap (λ (t : List ℕ). aim ++ claim ++ lines_text series ++ t) (sym (lines_text-append tree (last ∷ [])))
    ∙ append_assoc (aim ++ claim) (lines_text series) (lines_text (tree ++ last ∷ []))
    ∙ ap (λ (t : List ℕ). aim ++ claim ++ t) (sym (lines_text-append series (tree ++ last ∷ [])))
    ∙ append_assoc aim claim (lines_text (series ++ (tree ++ last ∷ [])))
