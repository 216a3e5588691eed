-- The line of a box as the code finds it: its loops over the requirements, and each place where it ends.
use Rattle.std.proofs.Common.{◌≡◌, ℕ, suc, ◌+◌, ◌-◌, ◌<◌, ◌≤◌, ℤ, Bool, true, false, cond, Option, Some, None, option_map, unwrap_or, sym, ◌∙◌, ap, arith}
use Rattle.ts_certificate.specs.declared.certificate.TreeLine.{TreeLine}
use Rattle.ts_certificate.specs.declared.certificate.TreeLine.TheVariants.{Split, Remove, No, Worse, Yes}
use Rattle.ts_filter.specs.Boxes.{Box}
use Rattle.ts_filter.specs.declared.drops.Removal.{Removal}
use Rattle.ts_frontier.specs.Halve.{IsSingle, IsHalving}
use Rattle.ts_frontier.proofs.Halves.{halving_form, single_form}
use Rattle.ts_search.specs.Dive.{Find}
use Rattle.ts_search.specs.Drops.{least, next_drop}
use Rattle.ts_frontier.specs.Forms.{Form, Alone, Wide, form}
use Rattle.ts_search.specs.LineOf.{Search, Contest, Sought, TheBest, TheFirst, search_in, last, requirements, inner, is_refuted_at, bar_of, cut_by, refuted_last, no_line, first_no, removal_line, branch_line, inner_worse, wide_line, form_line, line_of}

-- the loops over the requirements

pub least_next : (q : ℕ → Bool) (n m j : ℕ) (r : Bool) (z : Option ℕ) → j < m + 1 → m ≡ n → r ≡ q j → r ≡ false → least q (n + 1 - j) j ≡ z →
    least q (n + 1 - (j + 1)) (j + 1) ≡ z
least_next q n m j r z below count is fails h =
    let more : n + 1 - j ≡ suc (n + 1 - (j + 1)) = omega (arith, below, count) in
    let one : j + 1 ≡ suc j = omega arith in
    ap (λ k. least q (n + 1 - (j + 1)) k) one
    ∙ ap (λ t. cond t (Some j) (least q (n + 1 - (j + 1)) (suc j))) (sym fails ∙ is)
    ∙ ap (λ m. least q m j) (sym more) ∙ h

pub least_here : (q : ℕ → Bool) (n m j : ℕ) (r : Bool) (z : Option ℕ) → j < m + 1 → m ≡ n → r ≡ q j → r ≡ true → least q (n + 1 - j) j ≡ z → Some j ≡ z
least_here q n m j r z below count is holds h =
    let more : n + 1 - j ≡ suc (n + 1 - (j + 1)) = omega (arith, below, count) in
    ap (λ t. cond t (Some j) (least q (n + 1 - (j + 1)) (suc j))) (sym holds ∙ is) ∙ ap (λ m. least q m j) (sym more) ∙ h

pub least_end : (q : ℕ → Bool) (n m j : ℕ) (z : Option ℕ) → m + 1 ≤ j → m ≡ n → least q (n + 1 - j) j ≡ z → None ≡ z
least_end q n m j z above count h = let none : 0 ≡ n + 1 - j = omega (arith, above, count) in ap (λ k. least q k j) none ∙ h

pub no_next : (c : Search) (b : Box) (n m j : ℕ) (o : Option ℕ) (z : Option TreeLine) → j < m + 1 → m ≡ n → o ≡ least (λ p. is_refuted_at c j p b) (inner c) 1 →
    o ≡ None → first_no c b (n + 1 - j) j ≡ z → first_no c b (n + 1 - (j + 1)) (j + 1) ≡ z
no_next c b n m j o z below count is fails h =
    let more : n + 1 - j ≡ suc (n + 1 - (j + 1)) = omega (arith, below, count) in
    let one : j + 1 ≡ suc j = omega arith in
    ap (λ k. first_no c b (n + 1 - (j + 1)) k) one
    ∙ ap (λ p. no_line j p (first_no c b (n + 1 - (j + 1)) (suc j))) (sym fails ∙ is)
    ∙ ap (λ m. first_no c b m j) (sym more) ∙ h

pub no_here : (c : Search) (b : Box) (n m j p : ℕ) (o : Option ℕ) (z : Option TreeLine) → j < m + 1 → m ≡ n →
    o ≡ least (λ p. is_refuted_at c j p b) (inner c) 1 →
    o ≡ Some p → first_no c b (n + 1 - j) j ≡ z → Some (No j p) ≡ z
no_here c b n m j p o z below count is some h =
    let more : n + 1 - j ≡ suc (n + 1 - (j + 1)) = omega (arith, below, count) in
    ap (λ o. no_line j o (first_no c b (n + 1 - (j + 1)) (suc j))) (sym some ∙ is) ∙ ap (λ m. first_no c b m j) (sym more) ∙ h

pub no_end : (c : Search) (b : Box) (n m j : ℕ) (z : Option TreeLine) → m + 1 ≤ j → m ≡ n → first_no c b (n + 1 - j) j ≡ z → None ≡ z
no_end c b n m j z above count h = let none : 0 ≡ n + 1 - j = omega (arith, above, count) in ap (λ k. first_no c b k j) none ∙ h

-- where the line is found

module _ (q : Sought) (b : Box) where
  pub line_refuted : (j p : ℕ) → refuted_last (search_in q) b ≡ Some j → p ≡ last (search_in q) → No j p ≡ line_of q b
  line_refuted j p e end =
      ap (No j) end ∙ ap (λ o. unwrap_or (option_map (λ j. No j (last (search_in q))) o) (form_line q b (form b))) (sym e)

  pub line_free : (f : Form) → refuted_last (search_in q) b ≡ None → form b ≡ f → form_line q b f ≡ line_of q b
  line_free f e is =
      ap (form_line q b) (sym is) ∙ ap (λ o. unwrap_or (option_map (λ j. No j (last (search_in q))) o) (form_line q b (form b))) (sym e)

  pub wide_no : (l : TreeLine) (k : ℕ) (t : ℤ) → first_no (search_in q) b (requirements (search_in q)) 1 ≡ Some l → l ≡ wide_line q b k t
  wide_no l k t e = ap (λ o. unwrap_or o (inner_worse q b (branch_line (search_in q) b k t))) (sym e)

  pub wide_on : (l : TreeLine) (k : ℕ) (t : ℤ) → first_no (search_in q) b (requirements (search_in q)) 1 ≡ None →
      l ≡ inner_worse q b (branch_line (search_in q) b k t) → l ≡ wide_line q b k t
  wide_on l k t e is = is ∙ ap (λ o. unwrap_or o (inner_worse q b (branch_line (search_in q) b k t))) (sym e)

-- a drop where one is possible, else the split; the numbers are as the code has them
module _ (c : Search) (b : Box) (o : Option Removal) (is : o ≡ next_drop c.model c.spans b) where
  pub branch_drop : (r : Removal) (v : ℤ) (k : ℕ) (t : ℤ) → o ≡ Some r → v ≡ r.value → Remove r.cell v r.require ≡ branch_line c b k t
  branch_drop r v k t some same =
      ap (λ z. Remove r.cell z r.require) same
      ∙ ap (λ z. unwrap_or (option_map removal_line z) (Split k t)) (sym some ∙ is)

  pub branch_split : (k : ℕ) (t u : ℤ) → o ≡ None → u ≡ t → Split k u ≡ branch_line c b k t
  branch_split k t u none same =
      ap (Split k) same ∙ ap (λ z. unwrap_or (option_map removal_line z) (Split k t)) (sym none ∙ is)

module _ (c : Contest) (found : Option Find) (b : Box) (k : ℕ) (t : ℤ) where
  -- the line of a box of several series that is neither refuted nor cut at the last cell
  pub inner_cut : (o : Option ℕ) (p : ℕ) → first_no c.search b (requirements c.search) 1 ≡ None →
      o ≡ least (λ p. cut_by c (bar_of found c.warm) p b) (inner c.search) 1 → o ≡ Some p → Worse p ≡ wide_line (TheBest c found) b k t
  inner_cut o p none is some =
      wide_on (TheBest c found) b (Worse p) k t none
      (ap (λ z. unwrap_or (option_map (λ p. Worse p) z) (branch_line c.search b k t)) (sym some ∙ is))

  pub inner_branch : (o : Option ℕ) (l : TreeLine) → first_no c.search b (requirements c.search) 1 ≡ None →
      o ≡ least (λ p. cut_by c (bar_of found c.warm) p b) (inner c.search) 1 → o ≡ None → l ≡ branch_line c.search b k t → l ≡ wide_line (TheBest c found) b k t
  inner_branch o l none is out branch =
      wide_on (TheBest c found) b l k t none
      (branch ∙ ap (λ z. unwrap_or (option_map (λ p. Worse p) z) (branch_line c.search b k t)) (sym out ∙ is))

module _ (c : Contest) (found : Option Find) (b : Box) where
  pub solved_alone : refuted_last c.search b ≡ None → IsSingle b → (p : ℕ) → p ≡ last c.search → Worse p ≡ line_of (TheBest c found) b
  solved_alone e single p end =
      let f = single_form b single in ap Worse end ∙ line_free (TheBest c found) b (Alone f.0) e f.1

  pub solved_cut : refuted_last c.search b ≡ None → (k : ℕ) (t : ℤ) → IsHalving k t b → (r : Bool) →
      r ≡ cut_by c (bar_of found c.warm) (last c.search) b → r ≡ true →
      (p : ℕ) → p ≡ last c.search → Worse p ≡ line_of (TheBest c found) b
  solved_cut e k t h r is cut p end =
      ap Worse end
      ∙ ap (λ z. cond z (Worse (last c.search)) (wide_line (TheBest c found) b k t)) (sym cut ∙ is)
      ∙ line_free (TheBest c found) b (Wide k t) e (halving_form b k t h)

  pub solved_wide : refuted_last c.search b ≡ None → (k : ℕ) (t : ℤ) → IsHalving k t b → (r : Bool) →
      r ≡ cut_by c (bar_of found c.warm) (last c.search) b → r ≡ false →
      (l : TreeLine) → l ≡ wide_line (TheBest c found) b k t → l ≡ line_of (TheBest c found) b
  solved_wide e k t h r is cut l wide =
      wide
      ∙ ap (λ z. cond z (Worse (last c.search)) (wide_line (TheBest c found) b k t)) (sym cut ∙ is)
      ∙ line_free (TheBest c found) b (Wide k t) e (halving_form b k t h)

-- the line of a box in a listing
module _ (c : Search) (b : Box) where
  pub listed_alone : refuted_last c b ≡ None → IsSingle b → Yes ≡ line_of (TheFirst c) b
  listed_alone e single = let f = single_form b single in line_free (TheFirst c) b (Alone f.0) e f.1

  pub listed_no : refuted_last c b ≡ None → (k : ℕ) (t : ℤ) → IsHalving k t b → (o : Option TreeLine) (l : TreeLine) →
      o ≡ first_no c b (requirements c) 1 → o ≡ Some l → l ≡ line_of (TheFirst c) b
  listed_no e k t h o l is some =
      wide_no (TheFirst c) b l k t (sym is ∙ some) ∙ line_free (TheFirst c) b (Wide k t) e (halving_form b k t h)

  pub listed_branch : refuted_last c b ≡ None → (k : ℕ) (t : ℤ) → IsHalving k t b → (o : Option TreeLine) (l : TreeLine) →
      o ≡ first_no c b (requirements c) 1 → o ≡ None → l ≡ branch_line c b k t → l ≡ line_of (TheFirst c) b
  listed_branch e k t h o l is none branch =
      wide_on (TheFirst c) b l k t (sym is ∙ none) branch ∙ line_free (TheFirst c) b (Wide k t) e (halving_form b k t h)
