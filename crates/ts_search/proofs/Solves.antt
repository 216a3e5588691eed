-- At its end the search has a certificate that is solved.
use Rattle.std.proofs.Common.{◌≡◌, ◌⊎◌, ℕ, zero, suc, ◌+◌, ◌<◌, ◌≤◌, ℤ, true, false, List, [], ◌∷◌, ◌++◌, length, Option, Some, None, MatchOption, refl, sym, ◌∙◌, ap, subst, inl, inr, ⊎_elim, arith, append-nil}
use Rattle.std.proofs.lemmas.List.{length_push}
use Rattle.std.specs.Prelude.{IsSome}
use Rattle.ts_base.specs.declared.ext.Ext.{Ext}
use Rattle.ts_certificate.specs.declared.certificate.Aim.TheVariants.{Best as BestOf}
use Rattle.ts_certificate.specs.declared.certificate.Claim.{Claim}
use Rattle.ts_certificate.specs.declared.certificate.Claim.TheVariants.{Best, Infeasible, BudgetBest, BudgetNone}
use Rattle.ts_certificate.specs.declared.certificate.TreeLine.{TreeLine}
use Rattle.ts_certificate.specs.declared.certificate.TreeLine.TheVariants.{Split, Remove, No, Worse, Yes, Unsearched}
use Rattle.ts_certificate.specs.Certificate.{Cert, checked_count, open_count}
use Rattle.ts_model.specs.FirstBest.{FirstBest, objective_of, is_better}
use Rattle.ts_model.specs.Meets.{Meets}
use Rattle.ts_filter.specs.Accepts.{Accepts, HasTree}
use Rattle.ts_filter.specs.Boxes.{Box}
use Rattle.ts_filter.specs.Rules.{Head, claimed_value, MayStayOpen, KeepsRule, IsWorseFor}
use Rattle.ts_filter.specs.Steps.{Steps}
use Rattle.ts_filter.proofs.TreeLaws.{tree_is_steps, steps_go_on}
use Rattle.ts_search.specs.Dive.{Find, value_of}
use Rattle.ts_search.specs.Found.{tally, reported_or_warm, found_in}
use Rattle.ts_search.specs.LineOf.{Contest, TheBest, line_of}
use Rattle.ts_search.specs.Solved.{IsSolvedBy}
use Rattle.ts_search.specs.Turns.{State, turn_on, turn, turns, start, left_open, found_or_warm, series_of, budget_claim, solve_certificate}
use Rattle.ts_search.proofs.Good.{Good, FoundOk, Settled, head_now, found_is_best, good_start, good_turns}
use Rattle.ts_search.proofs.Known.{never_itself, KnownBest}
use Rattle.ts_search.proofs.Walk.{IsChecked, steps_under, tally_open, open_steps, checked_open, opens_open}

-- the turns end with nothing pending, or with a line for each

pub turns_stop : (c : Contest) (n : ℕ) (s : State) → s.pending ≡ [] → turns c n s ≡ s
turns_stop c zero s at = refl
turns_stop c (suc n) s at =
    turns_stop c n (turn c s) (ap (λ z. (turn_on c s z).pending) at ∙ at) ∙ ap (λ z. turn_on c s z) at

pub turns_end : (c : Contest) (n : ℕ) (s : State) → ((turns c n s).pending ≡ []) ⊎ (length (turns c n s).lines ≡ length s.lines + n)
turns_end c zero s = inr (omega arith)
turns_end c (suc n) s = go (turns_end c n (turn c s)) s.pending refl
  where
    go : ((turns c n (turn c s)).pending ≡ []) ⊎ (length (turns c n (turn c s)).lines ≡ length (turn c s).lines + n) → (w : List Box) →
        s.pending ≡ w → ((turns c (suc n) s).pending ≡ []) ⊎ (length (turns c (suc n) s).lines ≡ length s.lines + suc n)
    go r [] at =
        let stay : (turn c s).pending ≡ [] = ap (λ z. (turn_on c s z).pending) at ∙ at in
        inl (ap (λ (z : State). z.pending) (turns_stop c n (turn c s) stay) ∙ stay)
    go r (b ∷ u) at =
        let more : length (turn c s).lines ≡ length s.lines + 1 =
        ap (λ z. length (turn_on c s z).lines) at ∙ length_push s.lines (line_of (TheBest c s.found) b) in
        ⊎_elim (λ e. inl e) (λ e. inr (omega arith)) r

pub turns_few : (c : Contest) (n : ℕ) (s : State) → length (turns c n s).lines ≤ length s.lines + n
turns_few c zero s = omega arith
turns_few c (suc n) s = go (turns_few c n (turn c s)) s.pending refl
  where
    go : length (turns c n (turn c s)).lines ≤ length (turn c s).lines + n → (w : List Box) → s.pending ≡ w →
        length (turns c (suc n) s).lines ≤ length s.lines + suc n
    go r [] at =
        let stay : (turn c s).pending ≡ [] = ap (λ z. (turn_on c s z).pending) at ∙ at in
        let e = ap (λ (z : State). length z.lines) (turns_stop c n (turn c s) stay) in
        let d : length (turn c s).lines ≡ length s.lines = ap (λ z. length (turn_on c s z).lines) at in
        omega arith
    go r (b ∷ u) at =
        let more : length (turn c s).lines ≡ length s.lines + 1 =
        ap (λ z. length (turn_on c s z).lines) at ∙ length_push s.lines (line_of (TheBest c s.found) b) in
        omega arith

-- the parts of a certificate

abbrev solve_cert : Contest → Claim → List (List ℤ) → List TreeLine → Cert
solve_cert c claim series ls = record { aim = BestOf c.goal; claim = claim; series = series; tree = ls }

abbrev head : Contest → Claim → List (List ℤ) → Head
head c claim series = record { aim = BestOf c.goal; claim = claim; series = series }

module _ (c : Contest) where
  to_tree : (claim : Claim) (xs : List (List ℤ)) (ls : List TreeLine) →
      Steps c.search.model c.search.spans (head c claim xs) (c.search.model.cells ∷ []) 0 ls [] 0 →
      HasTree c.search.model c.search.spans (solve_cert c claim xs ls)
  to_tree claim xs ls f =
      let t = (tree_is_steps c.search.model c.search.spans (head c claim xs) c.search.model.cells ls 0).1 f in
      record { tree = t.0; lines = t.1; fits = t.2; reported = tt }

  -- the rules of checked lines ask the claim's value alone
  same_value : (claim other : Claim) (xs ys : List (List ℤ)) →
      ((p : ℕ) (b : Box) → MatchOption (claimed_value claim) ⊥ (λ v. IsWorseFor c.search.model c.search.spans (BestOf c.goal) v p b) →
      MatchOption (claimed_value other) ⊥ (λ v. IsWorseFor c.search.model c.search.spans (BestOf c.goal) v p b)) →
      (y : ℕ) (b : Box) (l : TreeLine) → IsChecked l → KeepsRule c.search.model c.search.spans (head c claim xs) y b l →
      KeepsRule c.search.model c.search.spans (head c other ys) y b l
  same_value claim other xs ys g y b (Split k t) ch f = f
  same_value claim other xs ys g y b (Remove k v j) ch f = f
  same_value claim other xs ys g y b (No j p) ch f = f
  same_value claim other xs ys g y b (Worse p) ch f = g p b f
  same_value claim other xs ys g y b Yes ch f = absurd f.listing
  same_value claim other xs ys g y b Unsearched ch f = absurd ch

  abbrev WarmFits : Option Find → Type 0
  WarmFits warm = MatchOption warm (Unit {0}) (λ w. Meets c.search.model w.series × (w.value ≡ value_of c.search.model w.series))

  -- with a warm series something is found
  none_left : (warm : Option Find) → WarmFits warm → ((y : List ℤ) → Meets c.search.model y → Settled c None warm y) → (y : List ℤ) → Meets c.search.model y → ⊥
  none_left None h g y m = g y m
  none_left (Some w) h g y m =
      never_itself c.goal w.value (subst (λ z. is_better c.goal w.value z ≡ true) (sym h.1) (g w.series h.0))

  none_worse : (warm : Option Find) → WarmFits warm → ((y : List ℤ) → Meets c.search.model y → Settled c None warm y) → (p : ℕ) (b : Box) →
      MatchOption (claimed_value (budget_claim warm)) ⊥ (λ v. IsWorseFor c.search.model c.search.spans (BestOf c.goal) v p b) → ⊥
  none_worse None h g p b k = k
  none_worse (Some w) h g p b k = none_left (Some w) h g w.series h.0

  best_fits : KnownBest c → (found : Option Find) (w : List Box) → FoundOk c found w → WarmFits (found_or_warm found c.warm)
  best_fits e (Some f) w h = (h.meets, h.value)
  best_fits e None w h = e.warm

  budget_open : (o : Option Find) → MayStayOpen (budget_claim o)
  budget_open None = tt
  budget_open (Some f) = tt

  -- the values of the objective
  is_value : KnownBest c → (x : List ℤ) (v : Ext) → Meets c.search.model x → objective_of c.search.model x ≡ Some v → value_of c.search.model x ≡ v
  is_value e x v m h = let k : ◌≡◌ {A = Option Ext} (Some (value_of c.search.model x)) (Some v) = sym (e.valued x m.inside) ∙ h in cc

-- what a certificate has, but for being lean
pub record HasClaim (c : Contest) (n : ℕ) (cert : Cert) : Type 0 where
  pub aim : cert.aim ≡ BestOf c.goal
  pub accepts : Accepts c.search.model c.search.spans cert
  pub within : checked_count cert.tree ≤ n
  pub claim : IsSolvedBy c n cert.claim cert.series cert.tree

solved_budget : (c : Contest) → KnownBest c → IsSome c.search.model.objective → (n : ℕ) (o : Option Find) (ls : List TreeLine) →
    Steps c.search.model c.search.spans (head c (budget_claim o) (series_of o)) (c.search.model.cells ∷ []) 0 ls [] 0 →
    WarmFits c o → checked_count ls ≡ n → 0 < open_count ls → found_in c ls ≡ o → HasClaim c n (solve_cert c (budget_claim o) (series_of o) ls)
solved_budget c e some n None ls st h k p f = record {
  aim = refl;
  accepts = record { aim = some; claim = tt; count = refl; series = tt; tree = to_tree c BudgetNone [] ls st };
  within = omega arith;
  claim = (refl, k, p, f);
}
solved_budget c e some n (Some w) ls st h k p f = record {
  aim = refl;
  accepts = record {
    aim = some;
    claim = tt;
    count = refl;
    series = (record { meets = h.0; claimed = e.valued w.series h.0.inside ∙ ap Some (sym h.1) }, tt);
    tree = to_tree c (BudgetBest w.value) (w.series ∷ []) ls st;
  };
  within = omega arith;
  claim = (w.series, refl, k, p, f);
}

found_end : (c : Contest) → KnownBest c → IsSome c.search.model.objective → (n : ℕ) (ls : List TreeLine) (f : Find) →
    Good c (record { lines = ls; pending = []; found = Some f }) →
    length ls ≤ n → HasClaim c n (solve_cert c (Best f.value) (f.series ∷ []) (ls ++ []))
found_end c e some n ls f g few =
    let all = c.search.model.cells ∷ [] in
    let here = g.found_ok in
    let h = head c (Best f.value) (f.series ∷ []) in
    let st = steps_under c.search.model c.search.spans (head_now c (Some f)) h
    (same_value c (BudgetBest f.value) (Best f.value) [] (f.series ∷ []) (λ p b k. k)) ls 0 all [] 0 g.all_checked g.stepped in
    let checked : checked_count (ls ++ []) ≡ length ls = checked_open ls [] g.all_checked in
    let value = e.valued f.series here.meets.inside ∙ ap Some (sym here.value) in
    record {
      aim = refl;
      accepts = record {
        aim = some;
        claim = tt;
        count = refl;
        series = (record { meets = here.meets; claimed = value }, tt);
        tree = to_tree c (Best f.value) (f.series ∷ []) (ls ++ []) (subst (λ z. Steps c.search.model c.search.spans h all 0 z [] 0) (sym (append-nil ls)) st);
      };
      within = omega arith;
      claim = (f.series, refl, first, value, opens_open ls [] g.all_checked);
    }
  where
    treated : (y : List ℤ) → Meets c.search.model y → Settled c (Some f) c.warm y
    treated y m = ⊎_elim (λ i. absurd i) (λ z. z) (g.settled y m)

    first : FirstBest c.search.model c.goal f.series
    first = record {
      meets = g.found_ok.meets;
      value = f.value;
      is = e.valued f.series g.found_ok.meets.inside ∙ ap Some (sym g.found_ok.value);
      best = λ y v m h. subst (λ z. is_better c.goal z f.value ≡ false) (is_value c e y v m h) (treated y m).0;
      first = λ y m h. (treated y m).1 (is_value c e y f.value m h);
    }

none_end : (c : Contest) → KnownBest c → IsSome c.search.model.objective → (n : ℕ) (ls : List TreeLine) →
    Good c (record { lines = ls; pending = []; found = None }) →
    length ls ≤ n → HasClaim c n (solve_cert c Infeasible [] (ls ++ []))
none_end c e some n ls g few =
    let all = c.search.model.cells ∷ [] in
    let h = head c Infeasible [] in
    let st = steps_under c.search.model c.search.spans (head_now c None) h
    (same_value c (budget_claim c.warm) Infeasible [] [] (λ p b k. none_worse c c.warm e.warm treated p b k)) ls 0 all [] 0 g.all_checked g.stepped in
    let checked : checked_count (ls ++ []) ≡ length ls = checked_open ls [] g.all_checked in
    record {
      aim = refl;
      accepts = record {
        aim = some;
        claim = tt;
        count = refl;
        series = tt;
        tree = to_tree c Infeasible [] (ls ++ []) (subst (λ z. Steps c.search.model c.search.spans h all 0 z [] 0) (sym (append-nil ls)) st);
      };
      within = omega arith;
      claim = (refl, λ y m. none_left c c.warm e.warm treated y m);
    }
  where
    treated : (y : List ℤ) → Meets c.search.model y → Settled c None c.warm y
    treated y m = ⊎_elim (λ i. absurd i) (λ z. z) (g.settled y m)

solved_end : (c : Contest) → KnownBest c → IsSome c.search.model.objective → (n : ℕ) (ls : List TreeLine) (w : List Box) (found : Option Find) →
    Good c (record { lines = ls; pending = w; found = found }) → length ls ≤ n → ((w ≡ []) ⊎ (length ls ≡ n)) →
    HasClaim c n (solve_certificate c (record { lines = ls; pending = w; found = found }))
solved_end c e some n ls [] (Some f) g few end = found_end c e some n ls f g few
solved_end c e some n ls [] None g few end = none_end c e some n ls g few
solved_end c e some n ls (b ∷ u) found g few end =
    let all = c.search.model.cells ∷ [] in
    let o = found_or_warm found c.warm in
    let h = head c (budget_claim o) (series_of o) in
    let st = steps_under c.search.model c.search.spans (head_now c found) h
    (same_value c (budget_claim o) (budget_claim o) [] (series_of o) (λ p d k. k)) ls 0 all
    (b ∷ u) 0 g.all_checked g.stepped in
    let full : length ls ≡ n = ⊎_elim (λ q. absurd (let z : ◌≡◌ {A = List Box} (b ∷ u) [] = q in cc)) (λ q. q) end in
    let long : open_count (ls ++ left_open (b ∷ u)) ≡ suc (length u) = opens_open ls (b ∷ u) g.all_checked in
    solved_budget c e some n o (ls ++ left_open (b ∷ u))
    (steps_go_on c.search.model c.search.spans h ls (left_open (b ∷ u)) all (b ∷ u) [] 0 0 0 st
    (open_steps c.search.model c.search.spans h (budget_open c o) (b ∷ u) 0))
    (best_fits c e found (b ∷ u) g.found_ok)
    (checked_open ls (b ∷ u) g.all_checked ∙ full)
    (omega arith)
    (ap (λ z. reported_or_warm c z c.warm) (tally_open c (b ∷ u) ls None all)
    ∙ found_is_best c (tally c None all ls) c.warm
    ∙ ap (λ z. found_or_warm z c.warm) (sym g.found_is))

pub solve_solves : (c : Contest) (n : ℕ) → KnownBest c → IsSome c.search.model.objective → HasClaim c n (solve_certificate c (turns c n (start c)))
solve_solves c n e some =
    let s = turns c n (start c) in
    let few = turns_few c n (start c) in
    let end = turns_end c n (start c) in
    solved_end c e some n s.lines s.pending s.found (good_turns c e n (start c) (good_start c e.known)) (omega arith)
    (⊎_elim (λ q. inl q) (λ q. inr (omega arith)) end)
