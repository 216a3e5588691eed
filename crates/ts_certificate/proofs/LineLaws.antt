-- A line is read exactly where it is the text of a line that may come there.
use Rattle.std.proofs.Common.{◌≡◌, ℕ, ◌^◌, ◌<◌, ◌+◌, Bool, true, false, not, cond, Option, Some, None, Ok, Err, List, refl, sym, ap, subst, ◌∙◌, codes, ◌&&◌, arith}
use Rattle.std.specs.Prelude.{◌==◌}
use Rattle.std.specs.Str.{bytes_eq}
use Rattle.std.proofs.lemmas.Slice.Eq.{bytes_eq-Decides}
use Rattle.std.proofs.lemmas.Bool.{eqb-true, not-true, and_parts}
use Rattle.ts_certificate.specs.declared.certificate.TreeLine.{TreeLine}
use Rattle.ts_certificate.specs.declared.certificate.TreeLine.TheVariants.{Split, Remove, No, Worse, Yes, Unsearched}
use Rattle.ts_certificate.specs.declared.stop.LineStop.TheVariants.{Grammar, Counts}
use Rattle.ts_certificate.specs.declared.state.State.{State}
use Rattle.ts_certificate.specs.declared.state.State.TheVariants.{Start, AfterAim, InSeries, InTree, AfterEnd}
use Rattle.ts_base.specs.Words.{Words, all_words, without_lf, words_of, full_line}
use Rattle.ts_certificate.specs.TreeLines.{tree_words, tree_of}
use Rattle.ts_certificate.specs.HeadLines.{aim_of, claim_of, series_of}
use Rattle.ts_certificate.specs.Grammar.{CertLine, SaysAim, SaysClaim, SaysSeries, SaysTree, SaysEnd, line_words, line_text, is_end, may_follow}
use Rattle.ts_certificate.specs.LineOf.{as_line, end_of, end_or_stop, line_of_words, line_if, line_of}
use Rattle.ts_certificate.specs.Reading.{tree_lines}
use Rattle.ts_base.proofs.WordLaws.{AreSolid, words_again, text_is, text_again}
use Rattle.ts_certificate.proofs.TreeLaws.{tree_only, tree_again, tree_solid}
use Rattle.ts_certificate.proofs.HeadLaws.{aim_only, aim_again, aim_solid, claim_only, claim_again, claim_solid, series_only, series_again, series_solid, end_only, end_again, end_solid}

-- the words are those of the line, which may come there
abbrev Fits : State → Words → CertLine → Type 0
Fits s w l = (w ≡ line_words l) × (may_follow s l ≡ true)

said_only : {X : Type 0} (P : CertLine → Type 0) (f : X → CertLine) (o : Option X) (l : CertLine) → ((x : X) → o ≡ Some x → P (f x)) → as_line f o ≡ Ok l → P l
said_only P f None l g h = cc
said_only P f (Some x) l g h = let same : f x ≡ l = cc in subst P same (g x refl)

both_counts : (c u : ℕ) (e : ℕ × ℕ) (s t v : Bool) → c + u == 0 ≡ s → e.0 == c ≡ t → e.1 == u ≡ v → (l : CertLine) →
    cond s (Err Grammar) (cond t (cond v (Ok (SaysEnd e.0 e.1)) (Err (Counts e.1 u))) (Err (Counts e.0 c))) ≡ Ok l →
    (SaysEnd e.0 e.1 ≡ l) × (is_end c u e.0 e.1 ≡ true)
both_counts c u e true t v f g h l k = cc
both_counts c u e false false v f g h l k = cc
both_counts c u e false true false f g h l k = cc
both_counts c u e false true true f g h l k =
    let same : SaysEnd e.0 e.1 ≡ l = cc in
    (same, ap (λ b. not b && (e.0 == c && e.1 == u)) f ∙ ap (λ b. b && e.1 == u) g ∙ h)

ended_only : (c u : ℕ) (ws : List (List ℕ)) (o : Option (ℕ × ℕ)) (l : CertLine) → end_of ws ≡ o → end_or_stop c u o ≡ Ok l →
    Fits (InTree c u) (record { first = codes "end"; more = ws }) l
ended_only c u ws None l e h = cc
ended_only c u ws (Some p) l e h =
    let read = both_counts c u p (c + u == 0) (p.0 == c) (p.1 == u) refl refl refl l h in
    let here : Fits (InTree c u) (record { first = codes "end"; more = ws }) (SaysEnd p.0 p.1) =
    (ap (λ (x : List (List ℕ)). record { first = codes "end"; more = x }) (end_only ws p e).0, read.1) in
    subst (Fits (InTree c u) (record { first = codes "end"; more = ws })) read.0 here

proving_only : (c u : ℕ) (w : Words) (l : CertLine) (t : Bool) → bytes_eq w.first (codes "end") ≡ t →
    cond t (end_or_stop c u (end_of w.more)) (as_line SaysTree (tree_of w)) ≡ Ok l → Fits (InTree c u) w l
proving_only c u w l true e h =
    subst (λ (x : List ℕ). Fits (InTree c u) (record { first = x; more = w.more }) l) (sym ((bytes_eq-Decides w.first (codes "end")).0 e))
    (ended_only c u w.more (end_of w.more) l refl h)
proving_only c u w l false e h = said_only (Fits (InTree c u) w) SaysTree (tree_of w) l (λ x k. tree_only w x k) h

words_only : (s : State) (w : Words) (l : CertLine) → line_of_words s w ≡ Ok l → Fits s w l
words_only Start w l h = said_only (Fits Start w) SaysAim (aim_of w) l (λ x k. aim_only w x k) h
words_only (AfterAim a) w l h = said_only (Fits (AfterAim a) w) SaysClaim (claim_of a w) l (λ x k. claim_only a w x k) h
words_only (InSeries n) w l h = said_only (Fits (InSeries n) w) SaysSeries (series_of w) l (λ x k. series_only w x k) h
words_only (InTree c u) w l h = proving_only c u w l (bytes_eq w.first (codes "end")) refl h
words_only AfterEnd w l h = cc

line_only : (s : State) (text : List ℕ) (line : Option (List ℕ)) (l : CertLine) → without_lf text ≡ line → line_if s line ≡ Ok l →
    (text ≡ line_text l) × (may_follow s l ≡ true)
line_only s text None l e h = cc
line_only s text (Some line) l e h =
    let read = words_only s (words_of line) l h in
    (text_is text line e ∙ ap full_line read.0, read.1)

-- a line that is read is the text of what it says, which may come there
pub line_of_only : (s : State) (text : List ℕ) (l : CertLine) → line_of s text ≡ Ok l → (text ≡ line_text l) × (may_follow s l ≡ true)
line_of_only s text l h = line_only s text (without_lf text) l refl h

-- the counts of an end line
pub counts_small : (c u p o : ℕ) → c + u < 2 ^ 63 → is_end c u p o ≡ true → (p ≡ c) × (o ≡ u) × (c + u == 0 ≡ false) × (p < 2 ^ 63) × (o < 2 ^ 63)
counts_small c u p o few h =
    let each = and_parts (not (c + u == 0)) (p == c && o == u) h in
    let rest = and_parts (p == c) (o == u) each.1 in
    let first = eqb-true p c rest.0 in
    let second = eqb-true o u rest.1 in
    (first, second, not-true (c + u == 0) each.0, omega (arith, first), omega (arith, second))

pub line_solid : (s : State) (l : CertLine) → tree_lines s < 2 ^ 63 → may_follow s l ≡ true → AreSolid (all_words (line_words l))
line_solid Start (SaysAim a) few h = aim_solid a h
line_solid (AfterAim a) (SaysClaim c) few h = claim_solid a c h
line_solid (InSeries n) (SaysSeries vs) few h = series_solid vs h
line_solid (InTree c u) (SaysTree l) few h = tree_solid l h
line_solid (InTree c u) (SaysEnd p o) few h = let k = counts_small c u p o few h in end_solid p o k.3 k.4
line_solid s l few h = cc

no_end : (l : TreeLine) → bytes_eq (tree_words l).first (codes "end") ≡ false
no_end (Split k t) = refl
no_end (Remove k v j) = refl
no_end (No j p) = refl
no_end (Worse p) = refl
no_end Yes = refl
no_end Unsearched = refl

end_taken : (c u p o : ℕ) → c + u < 2 ^ 63 → is_end c u p o ≡ true → end_or_stop c u (Some (p, o)) ≡ Ok (SaysEnd p o)
end_taken c u p o few h =
    let each = and_parts (not (c + u == 0)) (p == c && o == u) h in
    let rest = and_parts (p == c) (o == u) each.1 in
    let k = counts_small c u p o few h in
    ap (λ b. cond b (Err Grammar) (cond (p == c) (cond (o == u) (Ok (SaysEnd p o)) (Err (Counts o u))) (Err (Counts p c)))) k.2
    ∙ ap (λ b. cond b (cond (o == u) (Ok (SaysEnd p o)) (Err (Counts o u))) (Err (Counts p c))) rest.0
    ∙ ap (λ b. cond b (Ok (SaysEnd p o)) (Err (Counts o u))) rest.1

words_taken : (s : State) (l : CertLine) → tree_lines s < 2 ^ 63 → may_follow s l ≡ true → line_of_words s (line_words l) ≡ Ok l
words_taken Start (SaysAim a) few h = ap (as_line SaysAim) (aim_again a h)
words_taken (AfterAim a) (SaysClaim c) few h = ap (as_line SaysClaim) (claim_again a c h)
words_taken (InSeries n) (SaysSeries vs) few h = ap (as_line SaysSeries) (series_again vs h)
words_taken (InTree c u) (SaysTree l) few h =
    ap (λ t. cond t (end_or_stop c u (end_of (tree_words l).more)) (as_line SaysTree (tree_of (tree_words l)))) (no_end l)
    ∙ ap (as_line SaysTree) (tree_again l h)
words_taken (InTree c u) (SaysEnd p o) few h =
    let k = counts_small c u p o few h in
    ap (end_or_stop c u) (end_again p o k.3 k.4) ∙ end_taken c u p o few h
words_taken s l few h = cc

-- the text of a line that may come there is read, and says that line
pub line_of_again : (s : State) (l : CertLine) → tree_lines s < 2 ^ 63 → may_follow s l ≡ true → line_of s (line_text l) ≡ Ok l
line_of_again s l few h =
    ap (line_if s) (text_again (line_words l))
    ∙ ap (line_of_words s) (words_again (line_words l) (line_solid s l few h))
    ∙ words_taken s l few h
