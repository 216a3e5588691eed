-- The words of an aim, a claim, a series and an end are read as that line, and what is read has those words.
use Rattle.std.proofs.Common.{◌≡◌, ℕ, ◌^◌, ◌<◌, true, false, cond, Option, Some, None, List, [], ◌∷◌, refl, sym, ap, subst, ◌∙◌, codes, lit<, map, arith}
use Rattle.std.specs.Prelude.{ℤ, pos}
use Rattle.std.specs.Fmt.{signed_decimal}
use Rattle.std.specs.List.{list_all}
use Rattle.std.specs.Option.{option_map}
use Rattle.std.specs.Str.{bytes_eq}
use Rattle.ts_base.specs.declared.ext.Ext.{Ext}
use Rattle.ts_base.specs.Text.{ext_text}
use Rattle.ts_base.specs.declared.goal.Goal.TheVariants.{Maximise, Minimise}
use Rattle.ts_certificate.specs.declared.certificate.Aim.{Aim}
use Rattle.ts_certificate.specs.declared.certificate.Aim.TheVariants.{Best as BestOf, List as ListOf}
use Rattle.ts_certificate.specs.declared.certificate.Claim.{Claim}
use Rattle.ts_certificate.specs.declared.certificate.Claim.TheVariants.{Best as BestIs, Infeasible, BudgetBest, BudgetNone, Full, All, BudgetList}
use Rattle.ts_base.specs.Words.{is_lf, is_space, Words, all_words}
use Rattle.ts_certificate.specs.WordCounts.{one_of, two_of, if_alone}
use Rattle.ts_token.specs.Number.{ext_of}
use Rattle.ts_certificate.specs.Ranges.{count_text, is_value, is_ext, value_of, whole_of, asked_of, is_listed}
use Rattle.ts_certificate.specs.HeadLines.{aim_words, is_aim, list_from, aim_of, claim_words, is_best_claim, is_list_claim, is_claim, best_from, budget_from, best_claim_of, count_from, list_claim_of, claim_of, series_words, is_series, onto_values, values_of, some_values, series_of}
use Rattle.ts_certificate.specs.Grammar.{end_words}
use Rattle.ts_certificate.specs.LineOf.{end_made, end_from, end_of}
use Rattle.ts_base.proofs.WordLaws.{is_solid, AreSolid, different, keyword_or}
use Rattle.std.specs.Cmp.Derive.{both_true}
use Rattle.std.proofs.lemmas.Bool.{and_parts}
use Rattle.ts_certificate.proofs.NumberLaws.{count_only, count_again, count_solid, whole_only, whole_again, decimal_solid, value_only, value_again, value_solid, ext_only, ext_again, ext_solid}
use Rattle.ts_certificate.proofs.TreeLaws.{alone_only, at_word, made_of, one_only, two_only}

-- aims
abbrev IsAimOf : List ℕ → List (List ℕ) → Aim → Type 0
IsAimOf first more a = (record { first = first; more = more } ≡ aim_words a) × (is_aim a ≡ true)

list_count : (w : List ℕ) (a : Aim) → option_map ListOf (asked_of w) ≡ Some a → IsAimOf (codes "generate") (w ∷ []) a
list_count w a h =
    made_of (IsAimOf (codes "generate") (w ∷ [])) ListOf (asked_of w) a
    (λ m e. let read = count_only 1 5000 w m e in (ap (λ (x : List ℕ). record { first = codes "generate"; more = x ∷ [] }) read.0, read.1))
    h

list_only : (ws : List (List ℕ)) (o : Option (List ℕ)) (a : Aim) → one_of ws ≡ o → list_from o ≡ Some a → IsAimOf (codes "generate") ws a
list_only ws None a e h = cc
list_only ws (Some w) a e h = subst (λ (x : List (List ℕ)). IsAimOf (codes "generate") x a) (sym (one_only ws w e)) (list_count w a h)

pub aim_only : (w : Words) (a : Aim) → aim_of w ≡ Some a → (w ≡ aim_words a) × (is_aim a ≡ true)
aim_only w a h =
    keyword_or (IsAimOf w.first w.more a) w.first (codes "maximise") (if_alone (BestOf Maximise) w.more) _ a
    (λ is k. at_word (λ z. IsAimOf z w.more a) w.first (codes "maximise") is
    (alone_only (IsAimOf (codes "maximise")) (BestOf Maximise) a w.more (refl, refl) k))
    (keyword_or (IsAimOf w.first w.more a) w.first (codes "minimise") (if_alone (BestOf Minimise) w.more) _ a
    (λ is k. at_word (λ z. IsAimOf z w.more a) w.first (codes "minimise") is
    (alone_only (IsAimOf (codes "minimise")) (BestOf Minimise) a w.more (refl, refl) k))
    (keyword_or (IsAimOf w.first w.more a) w.first (codes "generate") (list_from (one_of w.more)) None a
    (λ is k. at_word (λ z. IsAimOf z w.more a) w.first (codes "generate") is (list_only w.more (one_of w.more) a refl k))
    (λ k. cc)))
    h

pub aim_again : (a : Aim) → is_aim a ≡ true → aim_of (aim_words a) ≡ Some a
aim_again (BestOf Maximise) h = refl
aim_again (BestOf Minimise) h = refl
aim_again (ListOf m) h = ap (option_map ListOf) (count_again 1 5000 m (lit< tt) h)

aim_word_solid : (is_solid (codes "maximise") ≡ true) × (is_solid (codes "minimise") ≡ true) × (is_solid (codes "generate") ≡ true)
unfolding is_space is_lf
aim_word_solid = (refl, refl, refl)

pub aim_solid : (a : Aim) → is_aim a ≡ true → AreSolid (all_words (aim_words a))
aim_solid (BestOf Maximise) h = (aim_word_solid.0, tt)
aim_solid (BestOf Minimise) h = (aim_word_solid.1, tt)
aim_solid (ListOf m) h = (aim_word_solid.2, (count_solid 1 5000 m (lit< tt) h, tt))

-- claims after `maximise` and `minimise`
abbrev IsBestClaim : List ℕ → List (List ℕ) → Claim → Type 0
IsBestClaim first more c = (record { first = first; more = more } ≡ claim_words c) × (is_best_claim c ≡ true)

-- the one word is a number
ext_claim : (text : List ℕ) (make : Ext → Claim) (w : List ℕ) (c : Claim) →
    ((v : Ext) → is_ext v ≡ true → IsBestClaim text (ext_text v ∷ []) (make v)) → option_map make (ext_of w) ≡ Some c → IsBestClaim text (w ∷ []) c
ext_claim text make w c f h =
    made_of (IsBestClaim text (w ∷ [])) make (ext_of w) c
    (λ v e. let read = ext_only w v e in subst (λ (x : List ℕ). IsBestClaim text (x ∷ []) (make v)) (sym read.0) (f v read.1))
    h

best_only : (ws : List (List ℕ)) (o : Option (List ℕ)) (c : Claim) → one_of ws ≡ o → best_from o ≡ Some c → IsBestClaim (codes "best") ws c
best_only ws None c e h = cc
best_only ws (Some w) c e h = subst (λ (x : List (List ℕ)). IsBestClaim (codes "best") x c) (sym (one_only ws w e))
    (ext_claim (codes "best") BestIs w c (λ v f. (refl, f)) h)

budget_word : (w : List ℕ) (c : Claim) → budget_from (Some w) ≡ Some c → IsBestClaim (codes "budget") (w ∷ []) c
budget_word w c h =
    keyword_or (IsBestClaim (codes "budget") (w ∷ []) c) w (codes "none") (Some BudgetNone) (option_map BudgetBest (ext_of w)) c
    (λ is k. let same : BudgetNone ≡ c = cc in subst (IsBestClaim (codes "budget") (w ∷ [])) same
    (ap (λ (x : List ℕ). record { first = codes "budget"; more = x ∷ [] }) is, refl))
    (λ k. ext_claim (codes "budget") BudgetBest w c (λ v f. (refl, f)) k)
    h

budget_only : (ws : List (List ℕ)) (o : Option (List ℕ)) (c : Claim) → one_of ws ≡ o → budget_from o ≡ Some c → IsBestClaim (codes "budget") ws c
budget_only ws None c e h = cc
budget_only ws (Some w) c e h = subst (λ (x : List (List ℕ)). IsBestClaim (codes "budget") x c) (sym (one_only ws w e)) (budget_word w c h)

best_claim_only : (w : Words) (c : Claim) → best_claim_of w ≡ Some c → (w ≡ claim_words c) × (is_best_claim c ≡ true)
best_claim_only w c h =
    keyword_or (IsBestClaim w.first w.more c) w.first (codes "best") (best_from (one_of w.more)) _ c
    (λ is k. at_word (λ z. IsBestClaim z w.more c) w.first (codes "best") is (best_only w.more (one_of w.more) c refl k))
    (keyword_or (IsBestClaim w.first w.more c) w.first (codes "infeasible") (if_alone Infeasible w.more) _ c
    (λ is k. at_word (λ z. IsBestClaim z w.more c) w.first (codes "infeasible") is
    (alone_only (IsBestClaim (codes "infeasible")) Infeasible c w.more (refl, refl) k))
    (keyword_or (IsBestClaim w.first w.more c) w.first (codes "budget") (budget_from (one_of w.more)) None c
    (λ is k. at_word (λ z. IsBestClaim z w.more c) w.first (codes "budget") is (budget_only w.more (one_of w.more) c refl k))
    (λ k. cc)))
    h

-- claims after `generate`
abbrev IsListClaim : List ℕ → List (List ℕ) → Claim → Type 0
IsListClaim first more c = (record { first = first; more = more } ≡ claim_words c) × (is_list_claim c ≡ true)

count_word : (ws : List (List ℕ)) (o : Option (List ℕ)) (n : ℕ) → one_of ws ≡ o → count_from o ≡ Some n → (ws ≡ count_text n ∷ []) × (is_listed n ≡ true)
count_word ws None n e h = cc
count_word ws (Some w) n e h =
    let read = count_only 0 5000 w n h in
    (one_only ws w e ∙ ap (λ (x : List ℕ). x ∷ []) read.0, read.1)

count_claim : (text : List ℕ) (make : ℕ → Claim) (ws : List (List ℕ)) (c : Claim) →
    ((k : ℕ) → is_listed k ≡ true → IsListClaim text (count_text k ∷ []) (make k)) → option_map make (count_from (one_of ws)) ≡ Some c → IsListClaim text ws c
count_claim text make ws c f h =
    made_of (IsListClaim text ws) make (count_from (one_of ws)) c
    (λ n e. let read = count_word ws (one_of ws) n refl e in subst (λ (x : List (List ℕ)). IsListClaim text x (make n)) (sym read.0) (f n read.1))
    h

list_claim_only : (w : Words) (c : Claim) → list_claim_of w ≡ Some c → (w ≡ claim_words c) × (is_list_claim c ≡ true)
list_claim_only w c h =
    keyword_or (IsListClaim w.first w.more c) w.first (codes "full") (option_map Full (count_from (one_of w.more))) _ c
    (λ is k. at_word (λ z. IsListClaim z w.more c) w.first (codes "full") is (count_claim (codes "full") Full w.more c (λ n f. (refl, f)) k))
    (keyword_or (IsListClaim w.first w.more c) w.first (codes "all") (option_map All (count_from (one_of w.more))) _ c
    (λ is k. at_word (λ z. IsListClaim z w.more c) w.first (codes "all") is (count_claim (codes "all") All w.more c (λ n f. (refl, f)) k))
    (keyword_or (IsListClaim w.first w.more c) w.first (codes "budget") (option_map BudgetList (count_from (one_of w.more))) None c
    (λ is k. at_word (λ z. IsListClaim z w.more c) w.first (codes "budget") is (count_claim (codes "budget") BudgetList w.more c (λ n f. (refl, f)) k))
    (λ k. cc)))
    h

pub claim_only : (a : Aim) (w : Words) (c : Claim) → claim_of a w ≡ Some c → (w ≡ claim_words c) × (is_claim a c ≡ true)
claim_only (BestOf goal) w c h = best_claim_only w c h
claim_only (ListOf m) w c h = list_claim_only w c h

-- no value is written `none`
not_none : (v : Ext) → is_ext v ≡ true → bytes_eq (ext_text v) (codes "none") ≡ false
unfolding ext_of
not_none v h = different (ext_text v) (codes "none") (λ is. let wrong : Some v ≡ None = sym (ext_again v h) ∙ ap ext_of is in cc)

best_claim_again : (c : Claim) → is_best_claim c ≡ true → best_claim_of (claim_words c) ≡ Some c
best_claim_again (BestIs v) h = ap (option_map BestIs) (ext_again v h)
best_claim_again Infeasible h = refl
best_claim_again (BudgetBest v) h = ap (λ t. cond t (Some BudgetNone) (option_map BudgetBest (ext_of (ext_text v)))) (not_none v h)
    ∙ ap (option_map BudgetBest) (ext_again v h)
best_claim_again BudgetNone h = refl
best_claim_again (Full c) h = cc
best_claim_again (All c) h = cc
best_claim_again (BudgetList c) h = cc

list_claim_again : (c : Claim) → is_list_claim c ≡ true → list_claim_of (claim_words c) ≡ Some c
list_claim_again (BestIs v) h = cc
list_claim_again Infeasible h = cc
list_claim_again (BudgetBest v) h = cc
list_claim_again BudgetNone h = cc
list_claim_again (Full c) h = ap (option_map Full) (count_again 0 5000 c (lit< tt) h)
list_claim_again (All c) h = ap (option_map All) (count_again 0 5000 c (lit< tt) h)
list_claim_again (BudgetList c) h = ap (option_map BudgetList) (count_again 0 5000 c (lit< tt) h)

pub claim_again : (a : Aim) (c : Claim) → is_claim a c ≡ true → claim_of a (claim_words c) ≡ Some c
claim_again (BestOf goal) c h = best_claim_again c h
claim_again (ListOf m) c h = list_claim_again c h

claim_word_solid : (is_solid (codes "best") ≡ true) × (is_solid (codes "infeasible") ≡ true) × (is_solid (codes "budget") ≡ true) ×
    (is_solid (codes "none") ≡ true) × (is_solid (codes "full") ≡ true) × (is_solid (codes "all") ≡ true)
unfolding is_space is_lf
claim_word_solid = (refl, refl, refl, refl, refl, refl)

best_claim_solid : (c : Claim) → is_best_claim c ≡ true → AreSolid (all_words (claim_words c))
best_claim_solid (BestIs v) h = (claim_word_solid.0, (ext_solid v h, tt))
best_claim_solid Infeasible h = (claim_word_solid.1, tt)
best_claim_solid (BudgetBest v) h = (claim_word_solid.2, (ext_solid v h, tt))
best_claim_solid BudgetNone h = (claim_word_solid.2, (claim_word_solid.3, tt))
best_claim_solid (Full c) h = cc
best_claim_solid (All c) h = cc
best_claim_solid (BudgetList c) h = cc

list_claim_solid : (c : Claim) → is_list_claim c ≡ true → AreSolid (all_words (claim_words c))
list_claim_solid (BestIs v) h = cc
list_claim_solid Infeasible h = cc
list_claim_solid (BudgetBest v) h = cc
list_claim_solid BudgetNone h = cc
list_claim_solid (Full c) h = (claim_word_solid.4, (count_solid 0 5000 c (lit< tt) h, tt))
list_claim_solid (All c) h = (claim_word_solid.5, (count_solid 0 5000 c (lit< tt) h, tt))
list_claim_solid (BudgetList c) h = (claim_word_solid.2, (count_solid 0 5000 c (lit< tt) h, tt))

pub claim_solid : (a : Aim) (c : Claim) → is_claim a c ≡ true → AreSolid (all_words (claim_words c))
claim_solid (BestOf goal) c h = best_claim_solid c h
claim_solid (ListOf m) c h = list_claim_solid c h

-- series
abbrev AreRead : List (List ℕ) → List ℤ → Type 0
AreRead ws vs = (ws ≡ map signed_decimal vs) × (list_all is_value vs ≡ true)

values_step : (w : List ℕ) (ws : List (List ℕ)) (v : Option ℤ) (o : Option (List ℤ)) (vs : List ℤ) → value_of w ≡ v →
    ((us : List ℤ) → o ≡ Some us → AreRead ws us) → onto_values v o ≡ Some vs → AreRead (w ∷ ws) vs
values_step w ws None o vs e later h = cc
values_step w ws (Some v) None vs e later h = cc
values_step w ws (Some v) (Some us) vs e later h =
    let same : v ∷ us ≡ vs = cc in
    let first = value_only w v e in
    let rest = later us refl in
    let here : AreRead (w ∷ ws) (v ∷ us) = (
      ap (λ (x : List ℕ). x ∷ ws) first.0
          ∙ ap (λ (x : List (List ℕ)). signed_decimal v ∷ x) rest.0,
      both_true first.1 rest.1,
    ) in
    subst (AreRead (w ∷ ws)) same here

values_only : (ws : List (List ℕ)) (vs : List ℤ) → values_of ws ≡ Some vs → AreRead ws vs
values_only [] vs h = let same : [] ≡ vs = cc in subst (AreRead []) same (refl, refl)
values_only (w ∷ ws) vs h = values_step w ws (value_of w) (values_of ws) vs refl (λ us e. values_only ws us e) h

abbrev IsSeriesOf : List ℕ → List (List ℕ) → List ℤ → Type 0
IsSeriesOf first more vs = (record { first = first; more = more } ≡ series_words vs) × (is_series vs ≡ true)

some_only : (ws : List (List ℕ)) (o : Option (List ℤ)) (vs : List ℤ) → values_of ws ≡ o → some_values o ≡ Some vs → IsSeriesOf (codes "series") ws vs
some_only ws None vs e h = cc
some_only ws (Some []) vs e h = cc
some_only ws (Some (u ∷ us)) vs e h =
    let same : u ∷ us ≡ vs = cc in
    let read = values_only ws (u ∷ us) e in
    let here : IsSeriesOf (codes "series") ws (u ∷ us) = (ap (λ (x : List (List ℕ)). record { first = codes "series"; more = x }) read.0, read.1) in
    subst (IsSeriesOf (codes "series") ws) same here

pub series_only : (w : Words) (vs : List ℤ) → series_of w ≡ Some vs → (w ≡ series_words vs) × (is_series vs ≡ true)
series_only w vs h =
    keyword_or (IsSeriesOf w.first w.more vs) w.first (codes "series") (some_values (values_of w.more)) None vs
    (λ is k. at_word (λ z. IsSeriesOf z w.more vs) w.first (codes "series") is (some_only w.more (values_of w.more) vs refl k))
    (λ k. cc)
    h

values_again : (vs : List ℤ) → list_all is_value vs ≡ true → values_of (map signed_decimal vs) ≡ Some vs
values_again [] h = refl
values_again (v ∷ vs) h =
    let each = and_parts (is_value v) (list_all is_value vs) h in
    ap (λ o. onto_values o (values_of (map signed_decimal vs))) (value_again v each.0) ∙ ap (onto_values (Some v)) (values_again vs each.1)

pub series_again : (vs : List ℤ) → is_series vs ≡ true → series_of (series_words vs) ≡ Some vs
series_again [] h = cc
series_again (v ∷ vs) h = ap some_values (values_again (v ∷ vs) h)

series_word_solid : is_solid (codes "series") ≡ true
unfolding is_space is_lf
series_word_solid = refl

values_solid : (vs : List ℤ) → list_all is_value vs ≡ true → AreSolid (map signed_decimal vs)
values_solid [] h = tt
values_solid (v ∷ vs) h =
    let each = and_parts (is_value v) (list_all is_value vs) h in
    (value_solid v each.0, values_solid vs each.1)

pub series_solid : (vs : List ℤ) → is_series vs ≡ true → AreSolid (all_words (series_words vs))
series_solid [] h = cc
series_solid (v ∷ vs) h = (series_word_solid, values_solid (v ∷ vs) h)

-- ends
abbrev IsEndOf : List (List ℕ) → ℕ × ℕ → Type 0
IsEndOf ws e = (ws ≡ count_text e.0 ∷ count_text e.1 ∷ []) × (e.0 < 2 ^ 63) × (e.1 < 2 ^ 63)

end_some : (a b : List ℕ) (l o : Option ℕ) (e : ℕ × ℕ) → whole_of a ≡ l → whole_of b ≡ o → end_made l o ≡ Some e → IsEndOf (a ∷ b ∷ []) e
end_some a b None o e f g h = cc
end_some a b (Some l) None e f g h = cc
end_some a b (Some l) (Some o) e f g h =
    let same : (l, o) ≡ e = cc in
    let first = whole_only a l f in
    let second = whole_only b o g in
    let here : IsEndOf (a ∷ b ∷ []) (l, o) = (
      ap (λ (x : List ℕ). x ∷ b ∷ []) first.0
          ∙ ap (λ (x : List ℕ). count_text l ∷ x ∷ []) second.0,
      first.1,
      second.1,
    ) in
    subst (IsEndOf (a ∷ b ∷ [])) same here

end_step : (ws : List (List ℕ)) (p : Option (List ℕ × List ℕ)) (e : ℕ × ℕ) → two_of ws ≡ p → end_from p ≡ Some e → IsEndOf ws e
end_step ws None e f h = cc
end_step ws (Some p) e f h = subst (λ (x : List (List ℕ)). IsEndOf x e) (sym (two_only ws p f)) (end_some p.0 p.1 (whole_of p.0) (whole_of p.1) e refl refl h)

pub end_only : (ws : List (List ℕ)) (e : ℕ × ℕ) → end_of ws ≡ Some e → IsEndOf ws e
end_only ws e h = end_step ws (two_of ws) e refl h

pub end_again : (l o : ℕ) → l < 2 ^ 63 → o < 2 ^ 63 → end_of (count_text l ∷ count_text o ∷ []) ≡ Some (l, o)
end_again l o f g = ap (λ x. end_made x (whole_of (count_text o))) (whole_again l f) ∙ ap (end_made (Some l)) (whole_again o g)

end_word_solid : is_solid (codes "end") ≡ true
unfolding is_space is_lf
end_word_solid = refl

pub end_solid : (l o : ℕ) → l < 2 ^ 63 → o < 2 ^ 63 → AreSolid (all_words (end_words l o))
end_solid l o f g = (end_word_solid, (decimal_solid (pos l) (omega (arith, f)), (decimal_solid (pos o) (omega (arith, g)), tt)))
