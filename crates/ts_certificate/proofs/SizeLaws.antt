-- How long the text of a certificate is.
use Rattle.std.proofs.Common.{◌≡◌, ℕ, ◌+◌, ◌*◌, ◌&&◌, ◌^◌, ◌<◌, ◌≤◌, Bool, true, false, cond, List, [], ◌∷◌, ◌++◌, length, map, refl, ap, ◌∙◌, arith, codes, lit<}
use Rattle.std.specs.Prelude.{ℤ, pos, negsuc, neg_ℤ, int_le}
use Rattle.std.specs.Fmt.{signed_decimal}
use Rattle.std.specs.Int.Signed.{mag}
use Rattle.std.specs.List.{list_all, AllByRecursion}
use Rattle.std.proofs.lemmas.Bool.Decides.{nat_tests}
use Rattle.std.proofs.lemmas.Fmt.{length-decimal-le, length_signed_le}
use Rattle.std.proofs.lemmas.List.{length-append}
use Rattle.std.proofs.lemmas.Bool.{and_parts}
use Rattle.ts_base.specs.declared.ext.Ext.{Ext}
use Rattle.ts_base.specs.declared.ext.Ext.TheVariants.{NegInf, Int, PosInf}
use Rattle.ts_base.specs.declared.goal.Goal.TheVariants.{Maximise, Minimise}
use Rattle.ts_base.specs.Limits.{most_cells, most_checked}
use Rattle.ts_base.specs.Text.{ext_text}
use Rattle.ts_base.specs.Words.{behind, full_line}
use Rattle.ts_certificate.specs.declared.certificate.Aim.{Aim}
use Rattle.ts_certificate.specs.declared.certificate.Aim.TheVariants.{Best as BestOf, List as ListOf}
use Rattle.ts_certificate.specs.declared.certificate.Claim.{Claim}
use Rattle.ts_certificate.specs.declared.certificate.Claim.TheVariants.{Best as BestIs, Infeasible, BudgetBest, BudgetNone, Full, All, BudgetList}
use Rattle.ts_certificate.specs.declared.certificate.TreeLine.{TreeLine}
use Rattle.ts_certificate.specs.declared.certificate.TreeLine.TheVariants.{Split, Remove, No, Worse, Yes, Unsearched}
use Rattle.ts_certificate.specs.Certificate.{Cert, checked_count, open_count, end_line, lines_text, certificate_text, series_text, tree_text}
use Rattle.ts_certificate.specs.Grammar.{SaysAim, SaysClaim, SaysSeries, SaysTree, SaysEnd, line_text, series_count, is_open}
use Rattle.ts_certificate.specs.HeadLines.{is_aim, is_best_claim, is_list_claim, is_claim, is_series}
use Rattle.ts_certificate.specs.Laws.{IsWithinLimits}
use Rattle.ts_certificate.specs.Ranges.{count_text, is_value, is_count, is_cell, is_requirement, is_listed, is_ext}
use Rattle.ts_certificate.specs.TreeLines.{is_tree_line}
use Rattle.ts_certificate.proofs.NumberLaws.{count_small, fits_ext}
use Rattle.ts_certificate.proofs.TextLaws.{lines_text-append}

-- numbers
count_short : (low high k n : ℕ) → 0 < k → high < 10 ^ k → high < 2 ^ 64 → is_count low high n ≡ true → length (count_text n) ≤ k
count_short low high k n some fits wide h =
    let small = count_small low high n h in
    length-decimal-le k n some (omega (arith, small, fits)) (omega (arith, small, wide))

cell_short : (k : ℕ) → is_cell k ≡ true → length (count_text k) ≤ 3
cell_short k h = count_short 1 512 3 k (lit< tt) (lit< tt) (lit< tt) h

requirement_short : (j : ℕ) → is_requirement j ≡ true → length (count_text j) ≤ 2
requirement_short j h = count_short 1 64 2 j (lit< tt) (lit< tt) (lit< tt) h

value_mag : (v : ℤ) → is_value v ≡ true → mag v ≤ 1000000
value_mag (pos n) h = let e = (and_parts (int_le (neg_ℤ (pos 1000000)) (pos n)) (int_le (pos n) (pos 1000000)) h).1 in grind (arith, nat_tests)
value_mag (negsuc n) h = let e = (and_parts (int_le (neg_ℤ (pos 1000000)) (negsuc n)) (int_le (negsuc n) (pos 1000000)) h).0 in grind (arith, nat_tests)

value_short : (v : ℤ) → is_value v ≡ true → length (signed_decimal v) ≤ 8
value_short v h = let small = value_mag v h in length_signed_le 7 v (omega (arith, small)) (omega (arith, small))

ext_short : (e : Ext) → is_ext e ≡ true → length (ext_text e) ≤ 20
ext_short NegInf h = lit< tt
ext_short (Int n) h = let small = fits_ext n h in length_signed_le 19 n (omega (arith, small)) small
ext_short PosInf h = lit< tt

-- lines
line_length : (first : List ℕ) (more : List (List ℕ)) → length (full_line (record { first = first; more = more })) ≡ length first + length (behind more) + 1
line_length first more =
    let e = length-append (first ++ behind more) (10 ∷ []) in
    let f = length-append first (behind more) in
    omega (arith, e, f)

word_length : (w : List ℕ) (ws : List (List ℕ)) → length (behind (w ∷ ws)) ≡ length w + length (behind ws) + 1
word_length w ws = let e = length-append w (behind ws) in omega (arith, e)

one_word : (first a : List ℕ) → length (full_line (record { first = first; more = a ∷ [] })) ≡ length first + length a + 2
one_word first a = let e = line_length first (a ∷ []) in let f = word_length a [] in omega (arith, e, f)

two_words : (first a b : List ℕ) → length (full_line (record { first = first; more = a ∷ b ∷ [] })) ≡ length first + length a + length b + 3
two_words first a b = let e = line_length first (a ∷ b ∷ []) in let f = word_length a (b ∷ []) in let g = word_length b [] in omega (arith, e, f, g)

three_words : (first a b c : List ℕ) → length (full_line (record { first = first; more = a ∷ b ∷ c ∷ [] })) ≡ length first + length a + length b + length c + 4
three_words first a b c =
    let e = line_length first (a ∷ b ∷ c ∷ []) in
    let f = word_length a (b ∷ c ∷ []) in
    let g = word_length b (c ∷ []) in
    let h = word_length c [] in
    omega (arith, e, f, g, h)

pub checked_short : (l : TreeLine) → is_tree_line l ≡ true → length (line_text (SaysTree l)) ≤ 21
checked_short (Split k t) h =
    let each = and_parts (is_cell k) (is_value t) h in
    let size = two_words (codes "split") (count_text k) (signed_decimal t) in
    let a = cell_short k each.0 in
    let b = value_short t each.1 in
    omega (arith, size, a, b)
checked_short (Remove k v j) h =
    let each = and_parts (is_cell k) (is_value v && is_requirement j) h in
    let rest = and_parts (is_value v) (is_requirement j) each.1 in
    let size = three_words (codes "drop") (count_text k) (signed_decimal v) (count_text j) in
    let a = cell_short k each.0 in
    let b = value_short v rest.0 in
    let c = requirement_short j rest.1 in
    omega (arith, size, a, b, c)
checked_short (No j p) h =
    let each = and_parts (is_requirement j) (is_cell p) h in
    let size = two_words (codes "no") (count_text j) (count_text p) in
    let a = requirement_short j each.0 in
    let b = cell_short p each.1 in
    omega (arith, size, a, b)
checked_short (Worse p) h =
    let size = one_word (codes "worse") (count_text p) in
    let a = cell_short p h in
    omega (arith, size, a)
checked_short Yes h = lit< tt
checked_short Unsearched h = lit< tt

values_short : (vs : List ℤ) → list_all is_value vs ≡ true → length (behind (map signed_decimal vs)) ≤ 9 * length vs
values_short [] h = omega arith
values_short (v ∷ vs) h =
    let each = and_parts (is_value v) (list_all is_value vs) h in
    let size = word_length (signed_decimal v) (map signed_decimal vs) in
    let a = value_short v each.0 in
    let b = values_short vs each.1 in
    omega (arith, size, a, b)

series_short : (vs : List ℤ) → is_series vs ≡ true → length vs ≤ most_cells → length (line_text (SaysSeries vs)) ≤ 4615
series_short [] h few = cc
series_short (v ∷ vs) h few =
    let size = line_length (codes "series") (map signed_decimal (v ∷ vs)) in
    let a = values_short (v ∷ vs) h in
    omega (arith, size, a, few)

aim_short : (a : Aim) → is_aim a ≡ true → length (line_text (SaysAim a)) ≤ 14
aim_short (BestOf Maximise) h = lit< tt
aim_short (BestOf Minimise) h = lit< tt
aim_short (ListOf m) h =
    let size = one_word (codes "generate") (count_text m) in
    let a = count_short 1 5000 4 m (lit< tt) (lit< tt) (lit< tt) h in
    omega (arith, size, a)

listed_short : (c : ℕ) → is_listed c ≡ true → length (count_text c) ≤ 4
listed_short c h = count_short 0 5000 4 c (lit< tt) (lit< tt) (lit< tt) h

best_short : (c : Claim) → is_best_claim c ≡ true → length (line_text (SaysClaim c)) ≤ 28
best_short (BestIs v) h = let size = one_word (codes "best") (ext_text v) in let a = ext_short v h in omega (arith, size, a)
best_short Infeasible h = lit< tt
best_short (BudgetBest v) h = let size = one_word (codes "budget") (ext_text v) in let a = ext_short v h in omega (arith, size, a)
best_short BudgetNone h = lit< tt
best_short c h = cc

list_short : (c : Claim) → is_list_claim c ≡ true → length (line_text (SaysClaim c)) ≤ 28
list_short (Full c) h = let size = one_word (codes "full") (count_text c) in let a = listed_short c h in omega (arith, size, a)
list_short (All c) h = let size = one_word (codes "all") (count_text c) in let a = listed_short c h in omega (arith, size, a)
list_short (BudgetList c) h = let size = one_word (codes "budget") (count_text c) in let a = listed_short c h in omega (arith, size, a)
list_short c h = cc

claim_short : (a : Aim) (c : Claim) → is_claim a c ≡ true → length (line_text (SaysClaim c)) ≤ 28
claim_short (BestOf goal) c h = best_short c h
claim_short (ListOf m) c h = list_short c h

end_short : (checked unsearched : ℕ) → checked ≤ most_checked → unsearched ≤ 65536 → length (line_text (SaysEnd checked unsearched)) ≤ 18
end_short checked unsearched few less =
    let size = two_words (codes "end") (count_text checked) (count_text unsearched) in
    let a = length-decimal-le 7 checked (lit< tt) (omega (arith, few)) (omega (arith, few)) in
    let b = length-decimal-le 5 unsearched (lit< tt) (omega (arith, less)) (omega (arith, less)) in
    omega (arith, size, a, b)

-- texts
tree_step : (l : TreeLine) (rest checked unsearched : ℕ) (t : Bool) → is_open l ≡ t → length (line_text (SaysTree l)) ≤ 21 →
    rest ≤ 21 * checked + 5 * unsearched →
    length (line_text (SaysTree l)) + rest ≤ 21 * cond t checked (checked + 1) + 5 * cond t (unsearched + 1) unsearched
tree_step l rest checked unsearched false e size later = omega (arith, size, later)
tree_step l rest checked unsearched true e size later = let five = open_size l e in omega (arith, five, later)
  where
    open_size : (l : TreeLine) → is_open l ≡ true → length (line_text (SaysTree l)) ≤ 5
    open_size Unsearched e = lit< tt
    open_size l e = cc

tree_short : (ls : List TreeLine) → list_all is_tree_line ls ≡ true → length (tree_text ls) ≤ 21 * checked_count ls + 5 * open_count ls
tree_short [] h = omega arith
tree_short (l ∷ ls) h =
    let each = and_parts (is_tree_line l) (list_all is_tree_line ls) h in
    let size = length-append (line_text (SaysTree l)) (tree_text ls) in
    let step = tree_step l (length (tree_text ls)) (checked_count ls) (open_count ls) (is_open l) refl (checked_short l each.0) (tree_short ls each.1) in
    omega (arith, size, step)

all_series_short : (xs : List (List ℤ)) → list_all is_series xs ≡ true → AllByRecursion (λ (values : List ℤ). length values ≤ most_cells) xs →
    length (series_text xs) ≤ 4615 * length xs
all_series_short [] h few = omega arith
all_series_short (x ∷ xs) h few =
    let each = and_parts (is_series x) (list_all is_series xs) h in
    let size = length-append (line_text (SaysSeries x)) (series_text xs) in
    let one = series_short x each.0 few.0 in
    let more = all_series_short xs each.1 few.1 in
    omega (arith, size, one, more)

text_length : (c : Cert) → length (certificate_text c) ≡
    length (line_text (SaysAim c.aim)) + length (line_text (SaysClaim c.claim)) + length (series_text c.series) + length (tree_text c.tree)
    + length (line_text (end_line c.tree))
text_length c =
    let end = lines_text (end_line c.tree ∷ []) in
    let tree = lines_text (map SaysTree c.tree ++ end_line c.tree ∷ []) in
    let series = lines_text (map SaysSeries c.series ++ (map SaysTree c.tree ++ end_line c.tree ∷ [])) in
    let a = length-append (line_text (SaysAim c.aim)) (line_text (SaysClaim c.claim) ++ series) in
    let b = length-append (line_text (SaysClaim c.claim)) series in
    let last = map SaysTree c.tree ++ end_line c.tree ∷ [] in
    let d = ap length (lines_text-append (map SaysSeries c.series) last) ∙ length-append (series_text c.series) tree in
    let e = ap length (lines_text-append (map SaysTree c.tree) (end_line c.tree ∷ [])) ∙ length-append (tree_text c.tree) end in
    let f = length-append (line_text (end_line c.tree)) [] in
    omega (arith, a, b, d, e, f)

pub text_short : (c : Cert) → IsWithinLimits c → length (certificate_text c) ≤ 21 * checked_count c.tree + 5 * open_count c.tree + 4615 * length c.series + 60
text_short c h =
    let is = h.certificate in
    let size = text_length c in
    let aim = aim_short c.aim is.aim in
    let claim = claim_short c.aim c.claim is.claim in
    let series = all_series_short c.series is.series h.series in
    let tree = tree_short c.tree is.tree in
    let end = end_short (checked_count c.tree) (open_count c.tree) h.checked h.unsearched in
    omega (arith, size, aim, claim, series, tree, end)

-- a listing has at most 5,000 series, and a best series is one
claim_few : (a : Aim) (c : Claim) → is_claim a c ≡ true → series_count c ≤ 5000
claim_few (BestOf goal) (BestIs v) h = omega arith
claim_few (BestOf goal) Infeasible h = omega arith
claim_few (BestOf goal) (BudgetBest v) h = omega arith
claim_few (BestOf goal) BudgetNone h = omega arith
claim_few (BestOf goal) c h = cc
claim_few (ListOf m) (Full c) h = count_small 0 5000 c h
claim_few (ListOf m) (All c) h = count_small 0 5000 c h
claim_few (ListOf m) (BudgetList c) h = count_small 0 5000 c h
claim_few (ListOf m) c h = cc

pub text_fits : (c : Cert) (model : ℕ) → IsWithinLimits c → model ≤ 1048576 → model + 4 + length (certificate_text c) ≤ 135266304
text_fits c model h small =
    let short = text_short c h in
    let listed = h.certificate.listed in
    let few = claim_few c.aim c.claim h.certificate.claim in
    let checked = h.checked in
    let unsearched = h.unsearched in
    omega (arith, short, listed, few, checked, unsearched, small)
