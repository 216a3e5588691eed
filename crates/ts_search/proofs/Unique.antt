-- The tree of a search is lean, there is one solved certificate, and a large budget is never spent.
use Rattle.std.proofs.Common.{◌≡◌, ◌⊎◌, ℕ, zero, suc, ◌+◌, ◌-◌, ◌*◌, ◌<◌, ◌≤◌, ℤ, Bool, true, false, List, [], ◌∷◌, ◌++◌, length, Option, Some, None, MatchOption, refl, sym, ◌∙◌, ap, subst, inl, inr, ⊎_elim, arith}
use Rattle.std.proofs.lemmas.Int.{ints}
use Rattle.ts_base.specs.declared.goal.Goal.{Goal}
use Rattle.ts_certificate.specs.declared.certificate.Aim.TheVariants.{Best as BestOf}
use Rattle.ts_certificate.specs.declared.certificate.Claim.{Claim}
use Rattle.ts_certificate.specs.declared.certificate.Claim.TheVariants.{Best, Infeasible, BudgetBest, BudgetNone}
use Rattle.ts_certificate.specs.declared.certificate.Claim.TheVariants.{Full, All, BudgetList}
use Rattle.ts_certificate.specs.declared.certificate.TreeLine.{TreeLine}
use Rattle.ts_certificate.specs.declared.certificate.TreeLine.TheVariants.{Split, Remove, No, Worse, Yes, Unsearched}
use Rattle.ts_certificate.specs.Certificate.{Cert, checked_count, open_count}
use Rattle.ts_domain.specs.BoxSeries.{IsBefore, series_count}
use Rattle.ts_model.specs.FirstBest.{FirstBest, objective_of}
use Rattle.ts_model.specs.ModelParts.{ModelParts}
use Rattle.ts_filter.specs.Accepts.{HasTree}
use Rattle.ts_filter.specs.Boxes.{Box}
use Rattle.ts_filter.specs.RefutedWorseDrop.{Spans}
use Rattle.ts_filter.specs.Rules.{Head, head_of, MayStayOpen}
use Rattle.ts_filter.specs.Steps.{made_by, Steps}
use Rattle.ts_filter.specs.Tree.{reported_by, reported_after}
use Rattle.ts_filter.proofs.BoxParts.{part_self}
use Rattle.ts_filter.proofs.TreeLaws.{parts_made, to_steps, formed_short, fit_formed}
use Rattle.ts_search.specs.Dive.{Find}
use Rattle.ts_frontier.specs.Forms.{form}
use Rattle.ts_search.specs.Found.{tally_after, tally}
use Rattle.ts_search.specs.Laws.{IsBudget}
use Rattle.ts_search.specs.Lean.{StandsInTime, or_open, IsLeanLine, sought_after, AreLean, most_reported}
use Rattle.ts_search.specs.LineOf.{Search, Contest, Sought, TheBest, TheFirst, line_of}
use Rattle.ts_search.specs.Solved.{IsSolvedBy}
use Rattle.ts_search.specs.Turns.{State, turn_on, turn, turns, start, left_open, found_or_warm, budget_claim, solve_head, solve_certificate}
use Rattle.ts_search.proofs.Good.{Good, head_now, good_start, good_turn, good_turns}
use Rattle.ts_search.proofs.Known.{Known, KnownBest, neither_better}
use Rattle.ts_search.proofs.Parts.{AreParts}
use Rattle.ts_search.proofs.Reason.{lean_fixes, lean_has}
use Rattle.ts_search.proofs.Solves.{HasClaim}
use Rattle.ts_search.proofs.Walk.{IsChecked, AllChecked}

-- the search's lines are lean

pub opens_same : (o : Bool) (l : TreeLine) → IsChecked l → or_open o l ≡ o
opens_same o (Split k t) h = refl
opens_same o (Remove k v j) h = refl
opens_same o (No j p) h = refl
opens_same o (Worse p) h = refl
opens_same o Yes h = refl
opens_same o Unsearched h = absurd h

-- what is sought after these lines, for the boxes that wait
abbrev pub sought_end : Sought → List Box → List TreeLine → Sought
sought_end (TheBest c f) w ls = TheBest c (tally c f w ls)
sought_end (TheFirst c) w ls = TheFirst c

sought_none : (q : Sought) (w : List Box) → sought_end q w [] ≡ q
sought_none (TheBest c f) w = refl
sought_none (TheFirst c) w = refl

sought_more : (q : Sought) (b : Box) (w : List Box) (l : TreeLine) (ls : List TreeLine) →
    sought_end q (b ∷ w) (l ∷ ls) ≡ sought_end (sought_after q (form b) l) (made_by l b ++ w) ls
sought_more (TheBest c f) b w l ls = refl
sought_more (TheFirst c) b w l ls = refl

pub lean_append : (m : ModelParts) (s : Spans) (most : Option ℕ) (h : Head) (o : Bool) (ls ms : List TreeLine) (q : Sought) (y : ℕ) (w left : List Box)
    (after : ℕ) → AllChecked ls → Steps m s h w y ls left after → AreLean q most o y w ls → AreLean (sought_end q w ls) most o after left ms →
    AreLean q most o y w (ls ++ ms)
lean_append m s most h o [] ms q y w left after a st n k =
    subst (λ z. AreLean q most o y z ms) (sym st.0) (subst (λ z. AreLean q most o z left ms) (sym st.1)
    (subst (λ z. AreLean z most o after left ms) (sought_none q w) k))
lean_append m s most h o (l ∷ ls) ms q y [] left after a st n k = absurd st
lean_append m s most h o (l ∷ ls) ms q y (b ∷ w) left after a st n k =
    let same = opens_same o l a.0 in
    let next = sought_after q (form b) l in (
      n.0,
      n.1,
      subst (λ z. AreLean next most z (reported_by l y) (made_by l b ++ w) (ls ++ ms)) (sym same)
          (lean_append m s most h o ls ms next (reported_by l y) (made_by l b ++ w) left after a.1 st.1
          (subst (λ z. AreLean next most z (reported_by l y) (made_by l b ++ w) ls) same n.2)
          (subst (λ z. AreLean z most o after left ms) (sought_more q b w l ls) k)),
    )

pub stands_now : (most : Option ℕ) (y : ℕ) (l : TreeLine) → MatchOption most (Unit {0}) (λ m. y < m) → StandsInTime most false y l
stands_now most y (Split k t) h = (refl, h)
stands_now most y (Remove k v j) h = (refl, h)
stands_now most y (No j p) h = (refl, h)
stands_now most y (Worse p) h = (refl, h)
stands_now most y Yes h = (refl, h)
stands_now most y Unsearched h = tt

pub lean_left : (q : Sought) (most : Option ℕ) (o : Bool) (y : ℕ) (w : List Box) → AreLean q most o y w (left_open w)
lean_left q most o y [] = tt
lean_left q most o y (b ∷ w) = (tt, tt, lean_left (sought_after q (form b) Unsearched) most true y w)

module _ (c : Contest) (e : KnownBest c) where
  abbrev LeanSoFar : List TreeLine → Type 0
  LeanSoFar ls = AreLean (TheBest c None) None false 0 (c.search.model.cells ∷ []) ls

  lean_turn : (s : State) → Good c s → (w : List Box) → s.pending ≡ w → LeanSoFar s.lines → LeanSoFar (turn_on c s w).lines
  lean_turn s g [] at n = n
  lean_turn s g (b ∷ u) at n =
      let all = c.search.model.cells ∷ [] in
      let st = subst (λ z. Steps c.search.model c.search.spans (head_now c s.found) all 0 s.lines z 0) at g.stepped in
      let here = subst (λ z. AreParts c.search.model.cells z) at g.boxes in
      let f = tally c None all s.lines in
      let l = line_of (TheBest c s.found) b in
      lean_append c.search.model c.search.spans None (head_now c s.found) false s.lines (l ∷ []) (TheBest c None) 0 all (b ∷ u) 0 g.all_checked st n (
        stands_now None 0 l tt,
        subst (λ z. IsLeanLine (TheBest c f) b (line_of (TheBest c z) b)) (sym g.found_is) (lean_has c f b here.0),
        tt,
      )

  lean_turns : (n : ℕ) (s : State) → Good c s → LeanSoFar s.lines → LeanSoFar (turns c n s).lines
  lean_turns zero s g l = l
  lean_turns (suc n) s g l =
      lean_turns n (turn c s) (good_turn c e s g s.pending refl) (lean_turn s g s.pending refl l)

  none_told : (found : Option Find) (w : List Box) → None ≡ most_reported (solve_head c found w).claim
  none_told None [] = refl
  none_told (Some f) [] = refl
  none_told found (b ∷ w) = go (found_or_warm found c.warm)
    where
      go : (o : Option Find) → None ≡ most_reported (budget_claim o)
      go None = refl
      go (Some f) = refl

  pub solve_lean : (n : ℕ) →
      let s = turns c n (start c) in
      AreLean (TheBest c None) (most_reported (solve_certificate c s).claim) false 0 (c.search.model.cells ∷ []) (solve_certificate c s).tree
  solve_lean n =
      let all = c.search.model.cells ∷ [] in
      let s = turns c n (start c) in
      let begin = good_start c e.known in
      let g = good_turns c e n (start c) begin in
      subst (λ z. AreLean (TheBest c None) z false 0 all (s.lines ++ left_open s.pending)) (none_told s.found s.pending)
      (lean_append c.search.model c.search.spans None (head_now c s.found) false s.lines (left_open s.pending) (TheBest c None) 0 all
      s.pending 0 g.all_checked g.stepped
      (lean_turns n (start c) begin tt) (lean_left (TheBest c (tally c None all s.lines)) None false 0 s.pending))

-- nothing checked after an open line

pub none_after : (q : Sought) (most : Option ℕ) (ls : List TreeLine) (y : ℕ) (w : List Box) → AreLean q most true y w ls → checked_count ls ≡ 0
none_after q most [] y w n = refl
none_after q most (l ∷ ls) y [] n = absurd n
none_after q most (Split k t ∷ ls) y (b ∷ w) n = absurd (let e = n.0.0 in cc)
none_after q most (Remove k v j ∷ ls) y (b ∷ w) n = absurd (let e = n.0.0 in cc)
none_after q most (No j p ∷ ls) y (b ∷ w) n = absurd (let e = n.0.0 in cc)
none_after q most (Worse p ∷ ls) y (b ∷ w) n = absurd (let e = n.0.0 in cc)
none_after q most (Yes ∷ ls) y (b ∷ w) n = absurd (let e = n.0.0 in cc)
none_after q most (Unsearched ∷ ls) y (b ∷ w) n = none_after (sought_after q (form b) Unsearched) most ls y w n.2

pub checked_or : (l : TreeLine) → IsChecked l ⊎ (l ≡ Unsearched)
checked_or (Split k t) = inl tt
checked_or (Remove k v j) = inl tt
checked_or (No j p) = inl tt
checked_or (Worse p) = inl tt
checked_or Yes = inl tt
checked_or Unsearched = inr refl

pub checked_one : (l : TreeLine) (ls : List TreeLine) → IsChecked l → (checked_count (l ∷ ls) ≡ suc (checked_count ls)) × (open_count (l ∷ ls) ≡ open_count ls)
checked_one (Split k t) ls h = (omega arith, refl)
checked_one (Remove k v j) ls h = (omega arith, refl)
checked_one (No j p) ls h = (omega arith, refl)
checked_one (Worse p) ls h = (omega arith, refl)
checked_one Yes ls h = (omega arith, refl)
checked_one Unsearched ls h = absurd h

-- what is known of the rest of a tree; spare: the lines that the budget leaves
pub record Rest (c : Contest) (h : Head) (most : Option ℕ) (f : Option Find) (o : Bool) (y z spare : ℕ) (w : List Box) (ls : List TreeLine) : Type 0 where
  pub aim : h.aim ≡ BestOf c.goal
  pub steps : Steps c.search.model c.search.spans h w y ls [] z
  pub lean : AreLean (TheBest c f) most o y w ls
  pub few : checked_count ls ≤ spare
  pub all : 0 < open_count ls → checked_count ls ≡ spare

module _ (c : Contest) where
  rest_open : (h : Head) (most : Option ℕ) (f : Option Find) (o : Bool) (y z spare : ℕ) (b : Box) (w : List Box) (ls : List TreeLine) →
      Rest c h most f o y z spare (b ∷ w) (Unsearched ∷ ls) → Rest c h most f true y z spare w ls
  rest_open h most f o y z spare b w ls r =
      record { aim = r.aim; steps = r.steps.1; lean = r.lean.2; few = r.few; all = λ p. r.all (omega arith) }

  rest_checked : (h : Head) (most : Option ℕ) (f : Option Find) (o : Bool) (y z spare : ℕ) (b : Box) (w : List Box) (l : TreeLine) (ls : List TreeLine) →
      IsChecked l → Rest c h most f o y z spare (b ∷ w) (l ∷ ls) →
      Rest c h most (tally_after c f (form b) l) o (reported_by l y) z (spare - 1) (made_by l b ++ w) ls
  rest_checked h most f o y z spare b w l ls k r =
      let one = checked_one l ls k in
      let few = r.few in
      record {
        aim = r.aim;
        steps = r.steps.1;
        lean = subst (λ z. AreLean (TheBest c (tally_after c f (form b) l)) most z (reported_by l y) (made_by l b ++ w) ls) (opens_same o l k) r.lean.2;
        few = omega (arith, one.0);
        all = λ p. (let q = r.all (omega (arith, one.1)) in omega (arith, one.0));
      }

  -- an open line where another tree has a checked one: the budget would not be spent
  too_early : (h g : Head) (most other : Option ℕ) (f : Option Find) (o : Bool) (y z z' spare : ℕ) (b : Box) (w : List Box) (m : TreeLine)
      (ls ms : List TreeLine) →
      Rest c h most f o y z spare (b ∷ w) (Unsearched ∷ ls) → IsChecked m → Rest c g other f o y z' spare (b ∷ w) (m ∷ ms) → ⊥
  too_early h g most other f o y z z' spare b w m ls ms r k s =
      let none : checked_count ls ≡ 0 = none_after (TheBest c f) most ls y w r.lean.2 in
      let full : checked_count ls ≡ spare = r.all (omega arith) in
      let few = s.few in
      omega (arith, (checked_one m ms k).0)

  module _ (h g : Head) (most other : Option ℕ) (z z' : ℕ) where
    pub same_trees : (ls ms : List TreeLine) (f : Option Find) (o : Bool) (y spare : ℕ) (w : List Box) → AreParts c.search.model.cells w →
        Rest c h most f o y z spare w ls → Rest c g other f o y z' spare w ms → ls ≡ ms
    same_trees [] [] f o y spare w bs r s = refl
    same_trees [] (m ∷ ms) f o y spare [] bs r s = absurd s.steps
    same_trees [] (m ∷ ms) f o y spare (b ∷ w) bs r s = absurd (let q = r.steps.0 in cc)
    same_trees (l ∷ ls) [] f o y spare [] bs r s = absurd r.steps
    same_trees (l ∷ ls) [] f o y spare (b ∷ w) bs r s = absurd (let q = s.steps.0 in cc)
    same_trees (l ∷ ls) (m ∷ ms) f o y spare [] bs r s = absurd r.steps
    same_trees (l ∷ ls) (m ∷ ms) f o y spare (b ∷ w) bs r s =
        ⊎_elim
        (λ k. ⊎_elim
        (λ k'.
        let p : l ≡ m = lean_fixes c f b h y l bs.0 r.aim k r.steps.0 r.lean.1 ∙ sym (lean_fixes c f b g y m bs.0 s.aim k' s.steps.0 s.lean.1) in
        let rest = rest_checked h most f o y z spare b w l ls k r in
        let also = rest_checked g other f o y z' spare b w l ms k (subst (λ t. Rest c g other f o y z' spare (b ∷ w) (t ∷ ms)) (sym p) s) in
        ap (λ t. l ∷ t)
        (same_trees ls ms (tally_after c f (form b) l) o (reported_by l y) (spare - 1) (made_by l b ++ w)
        (parts_made c.search.model c.search.spans h y l b w bs r.steps.0) rest also)
        ∙ ap (λ t. t ∷ ms) p)
        (λ q. absurd (too_early g h other most f o y z' z spare b w l ms ls (subst (λ t. Rest c g other f o y z' spare (b ∷ w) (t ∷ ms)) q s) k r))
        (checked_or m))
        (λ q. ⊎_elim
        (λ k. absurd (too_early h g most other f o y z z' spare b w m ls ms (subst (λ t. Rest c h most f o y z spare (b ∷ w) (t ∷ ls)) q r) k s))
        (λ q'.
        let rest = rest_open h most f o y z spare b w ls (subst (λ t. Rest c h most f o y z spare (b ∷ w) (t ∷ ls)) q r) in
        let also = rest_open g other f o y z' spare b w ms (subst (λ t. Rest c g other f o y z' spare (b ∷ w) (t ∷ ms)) q' s) in
        ap (λ t. t ∷ ls) q ∙ ap (λ t. Unsearched ∷ t) (same_trees ls ms f true y spare w bs.1 rest also) ∙ ap (λ t. t ∷ ms) (sym q'))
        (checked_or m))
        (checked_or l)

-- where no line may stay open, none does
pub closed_steps : (m : ModelParts) (s : Spans) (h : Head) → (MayStayOpen h.claim → ⊥) → (ls : List TreeLine) (y : ℕ) (w left : List Box) (after : ℕ) →
    Steps m s h w y ls left after → open_count ls ≡ 0
closed_steps m s h n [] y w left after f = refl
closed_steps m s h n (l ∷ ls) y [] left after f = absurd f
closed_steps m s h n (Split k t ∷ ls) y (b ∷ w) left after f = closed_steps m s h n ls y (made_by (Split k t) b ++ w) left after f.1
closed_steps m s h n (Remove k v j ∷ ls) y (b ∷ w) left after f = closed_steps m s h n ls y (made_by (Remove k v j) b ++ w) left after f.1
closed_steps m s h n (No j p ∷ ls) y (b ∷ w) left after f = closed_steps m s h n ls y w left after f.1
closed_steps m s h n (Worse p ∷ ls) y (b ∷ w) left after f = closed_steps m s h n ls y w left after f.1
closed_steps m s h n (Yes ∷ ls) y (b ∷ w) left after f = closed_steps m s h n ls (y + 1) w left after f.1
closed_steps m s h n (Unsearched ∷ ls) y (b ∷ w) left after f = absurd (n f.0)

-- the first best series is one

before_back : (x y : List ℤ) → IsBefore x y → IsBefore y x → ⊥
before_back [] y p q = absurd p
before_back (a ∷ x) [] p q = absurd p
before_back (a ∷ x) (b ∷ y) p q =
    ⊎_elim
    (λ f. ⊎_elim (λ g. absurd (omega (arith, ints, f, g))) (λ g. absurd (omega (arith, ints, f, g.0))) q)
    (λ f. ⊎_elim (λ g. absurd (omega (arith, ints, f.0, g))) (λ g. before_back x y f.1 g.1) q)
    p

pub one_best : (m : ModelParts) (goal : Goal) (x y : List ℤ) → FirstBest m goal x → FirstBest m goal y → x ≡ y
one_best m goal x y p q =
    let same = neither_better goal p.value q.value (q.best x p.value p.meets p.is) (p.best y q.value q.meets q.is) in
    ⊎_elim (λ e. e)
    (λ a. ⊎_elim (λ e. sym e) (λ d. absurd (before_back x y a d)) (q.first x p.meets (subst (λ z. objective_of m x ≡ Some z) same p.is)))
    (p.first y q.meets (subst (λ z. objective_of m y ≡ Some z) (sym same) q.is))

spent : (c : Contest) (n : ℕ) (claim : Claim) (xs : List (List ℤ)) (ls : List TreeLine) → IsSolvedBy c n claim xs ls →
    ((MayStayOpen claim → ⊥) → open_count ls ≡ 0) → 0 < open_count ls → checked_count ls ≡ n
spent c n (Best v) xs ls s k p = absurd (let e = s.4 in omega arith)
spent c n Infeasible xs ls s k p = absurd (let e = k (λ z. z) in omega arith)
spent c n (BudgetBest v) xs ls s k p = s.2
spent c n BudgetNone xs ls s k p = s.1
spent c n (Full m) xs ls s k p = absurd s
spent c n (All m) xs ls s k p = absurd s
spent c n (BudgetList m) xs ls s k p = absurd s

pub record SameClaim (a b : Claim) (xs ys : List (List ℤ)) : Type 0 where
  pub claim : a ≡ b
  pub series : xs ≡ ys

some_same : {A : Type 0} (a b : A) → ◌≡◌ {A = Option A} (Some a) (Some b) → a ≡ b
some_same a b e = cc

module _ (c : Contest) (n : ℕ) (ls : List TreeLine) (xs ys : List (List ℤ)) where
  same_claim : (a b : Claim) → IsSolvedBy c n a xs ls → IsSolvedBy c n b ys ls → ((MayStayOpen a → ⊥) → open_count ls ≡ 0) →
      ((MayStayOpen b → ⊥) → open_count ls ≡ 0) → SameClaim a b xs ys
  same_claim (Best v) (Best u) s t k m =
      let e = one_best c.search.model c.goal s.0 t.0 s.2 t.2 in
      record { claim = ap Best (some_same v u (sym s.3 ∙ ap (objective_of c.search.model) e ∙ t.3)); series = s.1 ∙ ap (λ x. x ∷ []) e ∙ sym t.1 }
  same_claim (Best v) Infeasible s t k m = absurd (t.1 s.0 s.2.meets)
  same_claim (Best v) (BudgetBest u) s t k m = absurd (let e = s.4 in let p = t.3 in omega arith)
  same_claim (Best v) BudgetNone s t k m = absurd (let e = s.4 in let p = t.2 in omega arith)
  same_claim Infeasible (Best u) s t k m = absurd (s.1 t.0 t.2.meets)
  same_claim Infeasible Infeasible s t k m = record { claim = refl; series = s.0 ∙ sym t.0 }
  same_claim Infeasible (BudgetBest u) s t k m = absurd (let e = k (λ z. z) in let p = t.3 in omega arith)
  same_claim Infeasible BudgetNone s t k m = absurd (let e = k (λ z. z) in let p = t.2 in omega arith)
  same_claim (BudgetBest v) (Best u) s t k m = absurd (let e = t.4 in let p = s.3 in omega arith)
  same_claim (BudgetBest v) Infeasible s t k m = absurd (let e = m (λ z. z) in let p = s.3 in omega arith)
  same_claim (BudgetBest v) (BudgetBest u) s t k m =
      let e = some_same (record { series = s.0; value = v }) (record { series = t.0; value = u }) (sym s.4 ∙ t.4) in
      record { claim = ap (λ (f : Find). BudgetBest f.value) e; series = s.1 ∙ ap (λ (f : Find). f.series ∷ []) e ∙ sym t.1 }
  same_claim (BudgetBest v) BudgetNone s t k m =
      absurd (let e : ◌≡◌ {A = Option Find} (Some (record { series = s.0; value = v })) None = sym s.4 ∙ t.3 in cc)
  same_claim BudgetNone (Best u) s t k m = absurd (let e = t.4 in let p = s.2 in omega arith)
  same_claim BudgetNone Infeasible s t k m = absurd (let e = m (λ z. z) in let p = s.2 in omega arith)
  same_claim BudgetNone (BudgetBest u) s t k m =
      absurd (let e : ◌≡◌ {A = Option Find} (Some (record { series = t.0; value = u })) None = sym t.4 ∙ s.3 in cc)
  same_claim BudgetNone BudgetNone s t k m = record { claim = refl; series = s.0 ∙ sym t.0 }
  same_claim (Full i) b s t k m = absurd s
  same_claim (All i) b s t k m = absurd s
  same_claim (BudgetList i) b s t k m = absurd s
  same_claim (Best v) (Full i) s t k m = absurd t
  same_claim (Best v) (All i) s t k m = absurd t
  same_claim (Best v) (BudgetList i) s t k m = absurd t
  same_claim Infeasible (Full i) s t k m = absurd t
  same_claim Infeasible (All i) s t k m = absurd t
  same_claim Infeasible (BudgetList i) s t k m = absurd t
  same_claim (BudgetBest v) (Full i) s t k m = absurd t
  same_claim (BudgetBest v) (All i) s t k m = absurd t
  same_claim (BudgetBest v) (BudgetList i) s t k m = absurd t
  same_claim BudgetNone (Full i) s t k m = absurd t
  same_claim BudgetNone (All i) s t k m = absurd t
  same_claim BudgetNone (BudgetList i) s t k m = absurd t

-- the steps of an accepted certificate
pub steps_of : (m : ModelParts) (s : Spans) (a : Cert) (t : HasTree m s a) → Steps m s (head_of a) (m.cells ∷ []) 0 a.tree [] (reported_after t.tree 0)
steps_of m s a t =
    subst (λ z. Steps m s (head_of a) (m.cells ∷ []) 0 z [] (reported_after t.tree 0)) t.lines (to_steps m s (head_of a) m.cells t.tree t.fits)

pub same_certificate : (a b : Cert) → a.aim ≡ b.aim → a.claim ≡ b.claim → a.series ≡ b.series → a.tree ≡ b.tree → a ≡ b
same_certificate a b p q r t =
    ap (λ z. record { aim = z; claim = a.claim; series = a.series; tree = a.tree }) p
    ∙ ap (λ z. record { aim = b.aim; claim = z; series = a.series; tree = a.tree }) q
    ∙ ap (λ z. record { aim = b.aim; claim = b.claim; series = z; tree = a.tree }) r
    ∙ ap (λ z. record { aim = b.aim; claim = b.claim; series = b.series; tree = z }) t

module _ (c : Contest) (k : Known c.search) (n : ℕ) where
  abbrev IsLean : Cert → Type 0
  IsLean a = AreLean (TheBest c None) (most_reported a.claim) false 0 (c.search.model.cells ∷ []) a.tree

  closed_of : (a : Cert) → HasClaim c n a → (MayStayOpen a.claim → ⊥) → open_count a.tree ≡ 0
  closed_of a s none =
      closed_steps c.search.model c.search.spans (head_of a) none a.tree 0 (c.search.model.cells ∷ []) [] (reported_after s.accepts.tree.tree 0)
      (steps_of c.search.model c.search.spans a s.accepts.tree)

  rest_of : (a : Cert) (s : HasClaim c n a) → IsLean a →
      Rest c (head_of a) (most_reported a.claim) None false 0 (reported_after s.accepts.tree.tree 0) n (c.search.model.cells ∷ []) a.tree
  rest_of a s l = record {
    aim = s.aim;
    steps = steps_of c.search.model c.search.spans a s.accepts.tree;
    lean = l;
    few = s.within;
    all = spent c n a.claim a.series a.tree s.claim (closed_of a s);
  }

  -- the rules leave no line to choose
  pub one_certificate : (a b : Cert) → HasClaim c n a → IsLean a → HasClaim c n b → IsLean b → a ≡ b
  one_certificate a b s l t m =
      let trees = same_trees c (head_of a) (head_of b) (most_reported a.claim) (most_reported b.claim) (reported_after s.accepts.tree.tree 0)
      (reported_after t.accepts.tree.tree 0)
      a.tree b.tree None false 0 n (c.search.model.cells ∷ []) (part_self c.search.model.cells k.box, tt) (rest_of a s l) (rest_of b t m) in
      let claims = same_claim c n b.tree a.series b.series a.claim b.claim (subst (λ z. IsSolvedBy c n a.claim a.series z) trees s.claim) t.claim
      (λ none. subst (λ z. open_count z ≡ 0) trees (closed_of a s none)) (closed_of b t) in
      same_certificate a b (s.aim ∙ sym t.aim) claims.claim claims.series trees

-- with so large a budget there is no budget claim

pub all_lines : (ls : List TreeLine) → checked_count ls + open_count ls ≡ length ls
all_lines [] = refl
all_lines (Split k t ∷ ls) = omega (arith, all_lines ls)
all_lines (Remove k v j ∷ ls) = omega (arith, all_lines ls)
all_lines (No j p ∷ ls) = omega (arith, all_lines ls)
all_lines (Worse p ∷ ls) = omega (arith, all_lines ls)
all_lines (Yes ∷ ls) = omega (arith, all_lines ls)
all_lines (Unsearched ∷ ls) = omega (arith, all_lines ls)

pub tree_size : (c : Search) → Known c → (a : Cert) → HasTree c.model c.spans a → length a.tree + 1 ≤ 2 * series_count c.model.cells
tree_size c k a t =
    subst (λ z. length z + 1 ≤ 2 * series_count c.model.cells) t.lines
    (formed_short t.tree c.model.cells k.box (fit_formed c.model c.spans (head_of a) 0 t.tree c.model.cells k.box t.fits))

budget_spent : (c : Contest) (n : ℕ) (claim : Claim) (xs : List (List ℤ)) (ls : List TreeLine) → IsSolvedBy c n claim xs ls → IsBudget claim →
    n + 1 ≤ checked_count ls + open_count ls
budget_spent c n (Best v) xs ls s b = absurd b
budget_spent c n Infeasible xs ls s b = absurd b
budget_spent c n (BudgetBest v) xs ls s b = omega (arith, s.2, s.3)
budget_spent c n BudgetNone xs ls s b = omega (arith, s.1, s.2)
budget_spent c n (Full m) xs ls s b = absurd b
budget_spent c n (All m) xs ls s b = absurd b
budget_spent c n (BudgetList m) xs ls s b = absurd s

pub no_budget : (c : Contest) → Known c.search → (n : ℕ) (a : Cert) → HasTree c.search.model c.search.spans a → IsSolvedBy c n a.claim a.series a.tree →
    2 * series_count c.search.model.cells ≤ n + 1 → IsBudget a.claim → ⊥
no_budget c k n a t s l b = omega (arith, budget_spent c n a.claim a.series a.tree s b, all_lines a.tree, tree_size c.search k a t, l)
