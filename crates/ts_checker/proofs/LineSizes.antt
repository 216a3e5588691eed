-- A line of a certificate is a series, or short.
use Rattle.std.proofs.Common.{◌≡◌, ℕ, ◌+◌, ◌^◌, ◌<◌, ◌≤◌, ◌&&◌, not, Bool, true, false, cond, Option, Some, None, Ok, Err, List, [], ◌∷◌, ◌++◌, length, refl, sym, ap, subst, arith, codes, lit<}
use Rattle.std.specs.Prelude.{ℤ, pos, negsuc, neg_ℤ, int_le, nat_le, ◌==◌, Result}
use Rattle.std.specs.Int.Signed.{mag}
use Rattle.std.proofs.lemmas.Bool.{eqb-true, and_parts}
use Rattle.std.proofs.lemmas.Bool.Decides.{nat_tests}
use Rattle.std.proofs.lemmas.Fmt.{length_signed_le}
use Rattle.std.proofs.lemmas.List.{length-append}
use Rattle.ts_base.specs.declared.ext.Ext.{Ext}
use Rattle.ts_base.specs.declared.ext.Ext.TheVariants.{NegInf, Int, PosInf}
use Rattle.ts_base.specs.declared.goal.Goal.TheVariants.{Maximise, Minimise}
use Rattle.ts_base.specs.Text.{ext_text}
use Rattle.ts_base.specs.Words.{behind, full_line}
use Rattle.ts_token.specs.Number.{number_of}
use Rattle.ts_token.proofs.NumberTexts.{written_number}
use Rattle.ts_certificate.specs.declared.certificate.Aim.{Aim}
use Rattle.ts_certificate.specs.declared.certificate.Aim.TheVariants.{Best as BestOf, List as ListOf}
use Rattle.ts_certificate.specs.declared.certificate.Claim.{Claim}
use Rattle.ts_certificate.specs.declared.certificate.Claim.TheVariants.{Best as BestIs, Infeasible, BudgetBest, BudgetNone, Full, All, BudgetList}
use Rattle.ts_certificate.specs.declared.state.State.{State}
use Rattle.ts_certificate.specs.declared.state.State.TheVariants.{Start, AfterAim, InSeries, InTree}
use Rattle.ts_certificate.specs.declared.stop.LineStop.{LineStop}
use Rattle.ts_certificate.specs.declared.stop.LineStop.TheVariants.{Grammar, Counts, Memory}
use Rattle.ts_certificate.specs.Grammar.{CertLine, SaysAim, SaysClaim, SaysSeries, SaysTree, SaysEnd, IsLine, is_end, line_text, may_come, may_follow}
use Rattle.ts_certificate.specs.HeadLines.{is_aim, is_best_claim, is_list_claim, is_claim}
use Rattle.ts_certificate.specs.LineOf.{line_of}
use Rattle.ts_certificate.specs.Ranges.{count_text, is_count, is_ext, is_listed, is_value, is_whole, only_value, value_of}
use Rattle.ts_certificate.specs.Reading.{WantsSeries, tree_lines}
use Rattle.ts_certificate.proofs.CallerLemmas.{checked_short, line_is}

-- numbers

count_short : (low high n : ℕ) → high < 2 ^ 62 → is_count low high n ≡ true → length (count_text n) ≤ 20
count_short low high n fits h =
    let e = (and_parts (nat_le low n) (nat_le n high) h).1 in
    let small : n ≤ high = grind (arith, nat_tests) in
    length_signed_le 19 (pos n) (omega (arith, small, fits)) (omega (arith, small, fits))

whole_short : (n : ℕ) → n < 2 ^ 63 → length (count_text n) ≤ 20
whole_short n small = length_signed_le 19 (pos n) (omega (arith, small)) (omega (arith, small))

ext_short : (e : Ext) → is_ext e ≡ true → length (ext_text e) ≤ 20
ext_short NegInf h = lit< tt
ext_short (Int n) h = let small : mag n < 2 ^ 63 = grind (arith, nat_tests) in length_signed_le 19 n (omega (arith, small)) small
ext_short PosInf h = lit< tt

value_mag : (v : ℤ) → is_value v ≡ true → mag v ≤ 1000000
value_mag (pos n) h = let e = (and_parts (int_le (neg_ℤ (pos 1000000)) (pos n)) (int_le (pos n) (pos 1000000)) h).1 in grind (arith, nat_tests)
value_mag (negsuc n) h = let e = (and_parts (int_le (neg_ℤ (pos 1000000)) (negsuc n)) (int_le (negsuc n) (pos 1000000)) h).0 in grind (arith, nat_tests)

-- a number of a series has at most 8 bytes
pub value_short : (w : List ℕ) (v : ℤ) → value_of w ≡ Some v → length w ≤ 8
value_short w v h = go (number_of w) refl h
  where
    test : (u : ℤ) (t : Bool) → number_of w ≡ Some u → is_value u ≡ t → cond t (Some u) None ≡ Some v → length w ≤ 8
    test u false e f k = cc
    test u true e f k =
        let small = value_mag u f in
        subst (λ (x : List ℕ). length x ≤ 8) (sym (written_number w u e).0) (length_signed_le 7 u (omega (arith, small)) (omega (arith, small)))

    go : (o : Option ℤ) → number_of w ≡ o → only_value o ≡ Some v → length w ≤ 8
    go None e k = cc
    go (Some u) e k = test u (is_value u) e refl k

-- lines

one_word : (first a : List ℕ) → length (full_line (record { first = first; more = a ∷ [] })) ≡ length first + length a + 2
one_word first a =
    let e = length-append (first ++ behind (a ∷ [])) (10 ∷ []) in
    let f = length-append first (behind (a ∷ [])) in
    let g = length-append a [] in
    omega (arith, e, f, g)

aim_short : (a : Aim) → is_aim a ≡ true → length (line_text (SaysAim a)) ≤ 80
aim_short (BestOf Maximise) h = lit< tt
aim_short (BestOf Minimise) h = lit< tt
aim_short (ListOf m) h =
    let size = one_word (codes "generate") (count_text m) in
    let a = count_short 1 5000 m (lit< tt) h in
    omega (arith, size, a)

best_short : (c : Claim) → is_best_claim c ≡ true → length (line_text (SaysClaim c)) ≤ 80
best_short (BestIs v) h = let size = one_word (codes "best") (ext_text v) in let a = ext_short v h in omega (arith, size, a)
best_short Infeasible h = lit< tt
best_short (BudgetBest v) h = let size = one_word (codes "budget") (ext_text v) in let a = ext_short v h in omega (arith, size, a)
best_short BudgetNone h = lit< tt
best_short c h = cc

listed_short : (c : ℕ) → is_listed c ≡ true → length (count_text c) ≤ 20
listed_short c h = count_short 0 5000 c (lit< tt) h

list_short : (c : Claim) → is_list_claim c ≡ true → length (line_text (SaysClaim c)) ≤ 80
list_short (Full c) h = let size = one_word (codes "full") (count_text c) in let a = listed_short c h in omega (arith, size, a)
list_short (All c) h = let size = one_word (codes "all") (count_text c) in let a = listed_short c h in omega (arith, size, a)
list_short (BudgetList c) h = let size = one_word (codes "budget") (count_text c) in let a = listed_short c h in omega (arith, size, a)
list_short c h = cc

claim_short : (a : Aim) (c : Claim) → is_claim a c ≡ true → length (line_text (SaysClaim c)) ≤ 80
claim_short (BestOf goal) c h = best_short c h
claim_short (ListOf m) c h = list_short c h

end_short : (p o : ℕ) → p < 2 ^ 63 → o < 2 ^ 63 → length (line_text (SaysEnd p o)) ≤ 80
end_short p o few less =
    let e = length-append (codes "end" ++ behind (count_text p ∷ count_text o ∷ [])) (10 ∷ []) in
    let f = length-append (codes "end") (behind (count_text p ∷ count_text o ∷ [])) in
    let g = length-append (count_text p) (behind (count_text o ∷ [])) in
    let h = length-append (count_text o) [] in
    let a = whole_short p few in
    let b = whole_short o less in
    omega (arith, e, f, g, h, a, b)

ended_short : (c u p o : ℕ) → c + u < 2 ^ 63 → is_end c u p o ≡ true → length (line_text (SaysEnd p o)) ≤ 80
ended_short c u p o few h =
    let each = and_parts (not (c + u == 0)) (p == c && o == u) h in
    let rest = and_parts (p == c) (o == u) each.1 in
    let first = eqb-true p c rest.0 in
    let second = eqb-true o u rest.1 in
    end_short p o (omega (arith, first, few)) (omega (arith, second, few))

tree_short : (l : CertLine) (n : ℕ) → length (line_text l) ≤ n → n ≤ 80 → length (line_text l) ≤ 80
tree_short l n h k = omega (arith, h, k)

line_short : (s : State) (l : CertLine) → (WantsSeries s → ⊥) → tree_lines s < 2 ^ 63 → may_follow s l ≡ true → length (line_text l) ≤ 80
line_short Start (SaysAim a) other few h = aim_short a h
line_short (AfterAim a) (SaysClaim c) other few h = claim_short a c h
line_short (InSeries n) (SaysSeries vs) other few h = absurd (other tt)
line_short (InTree c u) (SaysTree l) other few h = tree_short (SaysTree l) 21 (checked_short l h) (omega arith)
line_short (InTree c u) (SaysEnd p o) other few h = ended_short c u p o few h
line_short s l other few h = cc

whole_small : (n : ℕ) → is_whole n ≡ true → n < 2 ^ 63
whole_small n h = grind (arith, nat_tests)

other_short : (s : State) (p o : ℕ) → may_come s (SaysEnd p o) ≡ true → length (line_text (SaysEnd p o)) ≤ 80
other_short (InTree c u) p o h =
    let each = (and_parts (not (c + u == 0)) (is_whole p && is_whole o) h).1 in
    let both = and_parts (is_whole p) (is_whole o) each in
    end_short p o (whole_small p both.0) (whole_small o both.1)
other_short s p o h = cc

-- where no series is to come, a long line is against the grammar
pub long_refused : (s : State) (text : List ℕ) → (WantsSeries s → ⊥) → tree_lines s < 2 ^ 63 → 80 < length text → line_of s text ≡ Err Grammar
long_refused s text other few long = go (line_of s text) (line_is s text few)
  where
    go : (g : Result CertLine LineStop) → IsLine s text g → g ≡ Err Grammar
    go (Ok l) is = absurd (let short = line_short s l other few is.0 in let size = ap length is.1 in omega (arith, short, size, long))
    go (Err Grammar) is = refl
    go (Err (Counts x y)) is =
        let short = other_short s is.checked is.unsearched is.come in
        let size = ap length is.is in
        absurd (omega (arith, short, size, long))
    go (Err Memory) is = absurd is
