-- There is one listed certificate, and a large budget is never spent.
use Rattle.std.proofs.Common.{◌≡◌, ◌⊎◌, ℕ, zero, suc, ◌+◌, ◌-◌, ◌*◌, ◌<◌, ◌≤◌, ℤ, Bool, true, false, List, [], ◌∷◌, ◌++◌, length, slice_get, Option, Some, None, MatchOption, option_map, unwrap_or, refl, sym, ◌∙◌, ap, subst, inl, inr, ⊎_elim, arith, eq-or-lt_of_le}
use Rattle.std.specs.List.{AllByRecursion}
use Rattle.ts_certificate.specs.declared.certificate.Claim.{Claim}
use Rattle.ts_certificate.specs.declared.certificate.Claim.TheVariants.{Best, Infeasible, BudgetBest, BudgetNone}
use Rattle.ts_certificate.specs.declared.certificate.Claim.TheVariants.{Full, All, BudgetList}
use Rattle.ts_certificate.specs.declared.certificate.TreeLine.{TreeLine}
use Rattle.ts_certificate.specs.declared.certificate.TreeLine.TheVariants.{Split, Remove, No, Worse, Yes, Unsearched}
use Rattle.ts_certificate.specs.Certificate.{Cert, checked_count, open_count}
use Rattle.ts_domain.specs.BoxSeries.{InBox, series_count}
use Rattle.ts_model.specs.Meets.{Meets}
use Rattle.ts_model.specs.ModelParts.{ModelParts}
use Rattle.ts_filter.specs.Accepts.{AllReported}
use Rattle.ts_filter.specs.Boxes.{Box, IsPart}
use Rattle.ts_filter.specs.RefutedWorseDrop.{Spans}
use Rattle.ts_filter.specs.Rules.{Head, head_of, claimed_value, MayStayOpen, IsWorseFor, KeepsRule}
use Rattle.ts_filter.specs.Steps.{made_by, Steps}
use Rattle.ts_filter.specs.Tree.{reported_by, reported_after}
use Rattle.ts_filter.proofs.BoxParts.{only_series, part_self}
use Rattle.ts_filter.proofs.TreeLaws.{parts_made}
use Rattle.ts_filter.proofs.Answered.{told_more}
use Rattle.ts_search.specs.Drops.{or_later}
use Rattle.ts_frontier.specs.Forms.{Form, Alone, Wide, form}
use Rattle.ts_search.specs.Laws.{IsBudget}
use Rattle.ts_search.specs.Lean.{IsFree, IsLeanLine, InTime, StandsInTime, sought_after, AreLean, most_reported}
use Rattle.ts_search.specs.LineOf.{Search, Sought, TheFirst, last, requirements, is_refuted_at, refuted_last, first_no, removal_line, branch_line, form_line, line_of}
use Rattle.ts_search.specs.Listed.{IsListedBy}
use Rattle.ts_search.proofs.Choice.{LeastFits, least_fits}
use Rattle.ts_search.proofs.Known.{Known, no_series, to_refuted}
use Rattle.ts_search.proofs.ListSolves.{HasList}
use Rattle.ts_frontier.proofs.Halves.{is_alone}
use Rattle.ts_search.proofs.Parts.{AreParts, in_box_of, alone_within, drop_not_alone}
use Rattle.ts_search.proofs.Reason.{least_none, none_least, none_first_no, never_refuted}
use Rattle.ts_search.proofs.Unique.{all_lines, tree_size, opens_same, none_after, checked_or, checked_one, closed_steps, steps_of, same_certificate}
use Rattle.ts_search.proofs.Walk.{IsChecked}

meets_at : (m : ModelParts) (xs : List (List ℤ)) (i : ℕ) (x : List ℤ) → AllByRecursion (Meets m) xs → slice_get xs i ≡ Some x → Meets m x
meets_at m [] i x h e = absurd (let k : ◌≡◌ {A = Option (List ℤ)} None (Some x) = e in cc)
meets_at m (a ∷ xs) zero x h e = subst (λ z. Meets m z) (let k : ◌≡◌ {A = Option (List ℤ)} (Some a) (Some x) = e in cc) h.0
meets_at m (a ∷ xs) (suc i) x h e = meets_at m xs i x h.1 e

or_last : (o : Option TreeLine) → or_later o None ≡ o
or_last None = refl
or_last (Some l) = refl

module _ (c : Search) (e : Known c) (b : Box) (i : IsPart b c.model.cells) where
  list_line : (g : Form) → form b ≡ g → refuted_last c b ≡ None → line_of (TheFirst c) b ≡ form_line (TheFirst c) b g
  list_line g w p =
      ap (λ o. unwrap_or (option_map (λ j. No j (last c)) o) (form_line (TheFirst c) b (form b))) p ∙ ap (λ z. form_line (TheFirst c) b z) w

  free_end : IsFree (TheFirst c) b → refuted_last c b ≡ None
  free_end h = least_none (λ j. is_refuted_at c j (last c) b) (requirements c) 1 (λ j a k. never_refuted c b h.refuted j (last c))

  free_line : (k : ℕ) (t : ℤ) → form b ≡ Wide k t → IsFree (TheFirst c) b → line_of (TheFirst c) b ≡ branch_line c b k t
  free_line k t w h =
      list_line (Wide k t) w (free_end h)
      ∙ ap (λ o. unwrap_or o (branch_line c b k t)) (none_first_no c b (requirements c) 1 (never_refuted c b h.refuted))

  list_fixes : (h : Head) (y : ℕ) (l : TreeLine) → claimed_value h.claim ≡ None → AllByRecursion (Meets c.model) h.series → IsChecked l →
      KeepsRule c.model c.spans h y b l → IsLeanLine (TheFirst c) b l → l ≡ line_of (TheFirst c) b
  list_fixes h y (Split k t) a q ch r n = sym (free_line k t n.2 n.0 ∙ ap (λ o. unwrap_or (option_map removal_line o) (Split k t)) n.1)
  list_fixes h y (Remove k v j) a q ch r n = sym (go (form b) refl)
    where
      go : (g : Form) → form b ≡ g → line_of (TheFirst c) b ≡ Remove k v j
      go (Alone x) w = absurd (drop_not_alone c.model c.spans k v j b x i r w)
      go (Wide first t) w = free_line first t w n.0 ∙ ap (λ o. unwrap_or (option_map removal_line o) (Split first t)) n.1
  list_fixes h y (No j p) a q ch r n = sym (at_end (refuted_last c b) refl)
    where
      reason : (o : Option ℕ) → refuted_last c b ≡ o → or_later (option_map (λ j. No j (last c)) o)
          (or_later (first_no c b (requirements c) 1) None) ≡ Some (No j p)
      reason o z = ap (λ o. or_later (option_map (λ j. No j (last c)) o) (or_later (first_no c b (requirements c) 1) None)) (sym z) ∙ n

      by_form : refuted_last c b ≡ None → (g : Form) → form b ≡ g → line_of (TheFirst c) b ≡ No j p
      by_form z (Alone x) w =
          let free = none_least (λ j. is_refuted_at c j (last c) b) (requirements c) 1 z in
          let meets = e.single b x i w (λ k u v. free k u (omega (arith, v))) in
          absurd (no_series c e j p b x i (alone_within c.model.cells b x i w) meets r)
      by_form z (Wide k t) w =
          list_line (Wide k t) w z
          ∙ ap (λ o. unwrap_or o (branch_line c b k t)) (sym (or_last (first_no c b (requirements c) 1)) ∙ reason None z)

      at_end : (o : Option ℕ) → refuted_last c b ≡ o → line_of (TheFirst c) b ≡ No j p
      at_end None z = by_form z (form b) refl
      at_end (Some first) z =
          ap (λ o. unwrap_or (option_map (λ j. No j (last c)) o) (form_line (TheFirst c) b (form b))) z
          ∙ (let s : ◌≡◌ {A = Option TreeLine} (Some (No first (last c))) (Some (No j p)) = reason (Some first) z in cc)
  list_fixes h y (Worse p) a q ch r n = absurd (subst (λ o. MatchOption o ⊥ (λ v. IsWorseFor c.model c.spans h.aim v p b)) a r)
  list_fixes h y Yes a q ch r n = sym (at_end (refuted_last c b) refl (least_fits (λ j. is_refuted_at c j (last c) b) (requirements c) 1))
    where
      at_end : (o : Option ℕ) → refuted_last c b ≡ o → LeastFits (λ j. is_refuted_at c j (last c) b) (requirements c) 1 o →
          line_of (TheFirst c) b ≡ Yes
      at_end None z k = list_line (Alone r.series) (is_alone b r.series r.alone) z
      at_end (Some j) z k =
          absurd (no_series c e j (last c) b r.series i (alone_within c.model.cells b r.series i (is_alone b r.series r.alone))
          (meets_at c.model h.series y r.series q r.listed) (to_refuted c j (last c) b k.holds))
  list_fixes h y Unsearched a q ch r n = absurd ch

-- what is known of the rest of a tree; spare: the lines that the budget leaves
pub record ListRest (c : Search) (count : ℕ) (h : Head) (most : Option ℕ) (o : Bool) (y z spare : ℕ) (w : List Box)
    (ls : List TreeLine) : Type 0 where
  pub claim : claimed_value h.claim ≡ None
  pub meet : AllByRecursion (Meets c.model) h.series
  pub steps : Steps c.model c.spans h w y ls [] z
  pub lean : AreLean (TheFirst c) most o y w ls
  pub few : checked_count ls ≤ spare
  pub all : 0 < open_count ls → (checked_count ls ≡ spare) ⊎ (z ≡ count)
  pub room : (most ≡ Some count) ⊎ (z < count)

-- no yes line after an open one
none_told_after : (m : ModelParts) (s : Spans) (q : Sought) (most : Option ℕ) (h : Head) (ls : List TreeLine) (y : ℕ) (w left : List Box) (z : ℕ) →
    AreLean q most true y w ls → Steps m s h w y ls left z → y ≡ z
none_told_after m s q most h [] y w left z n st = st.1
none_told_after m s q most h (l ∷ ls) y [] left z n st = absurd n
none_told_after m s q most h (Split k t ∷ ls) y (b ∷ w) left z n st = absurd (let e = n.0.0 in cc)
none_told_after m s q most h (Remove k v j ∷ ls) y (b ∷ w) left z n st = absurd (let e = n.0.0 in cc)
none_told_after m s q most h (No j p ∷ ls) y (b ∷ w) left z n st = absurd (let e = n.0.0 in cc)
none_told_after m s q most h (Worse p ∷ ls) y (b ∷ w) left z n st = absurd (let e = n.0.0 in cc)
none_told_after m s q most h (Yes ∷ ls) y (b ∷ w) left z n st = absurd (let e = n.0.0 in cc)
none_told_after m s q most h (Unsearched ∷ ls) y (b ∷ w) left z n st =
    none_told_after m s (sought_after q (form b) Unsearched) most h ls y w left z n.2 st.1

in_time : (most : Option ℕ) (o : Bool) (y : ℕ) (l : TreeLine) → IsChecked l → StandsInTime most o y l → InTime most o y
in_time most o y (Split k t) h n = n
in_time most o y (Remove k v j) h n = n
in_time most o y (No j p) h n = n
in_time most o y (Worse p) h n = n
in_time most o y Yes h n = n
in_time most o y Unsearched h n = absurd h

module _ (c : Search) (count : ℕ) where
  list_rest_open : (h : Head) (most : Option ℕ) (o : Bool) (y z spare : ℕ) (b : Box) (w : List Box) (ls : List TreeLine) →
      ListRest c count h most o y z spare (b ∷ w) (Unsearched ∷ ls) → ListRest c count h most true y z spare w ls
  list_rest_open h most o y z spare b w ls r = record {
    claim = r.claim;
    meet = r.meet;
    steps = r.steps.1;
    lean = r.lean.2;
    few = r.few;
    all = λ p. r.all (omega arith);
    room = r.room;
  }

  list_rest_checked : (h : Head) (most : Option ℕ) (o : Bool) (y z spare : ℕ) (b : Box) (w : List Box) (l : TreeLine) (ls : List TreeLine) →
      IsChecked l → ListRest c count h most o y z spare (b ∷ w) (l ∷ ls) →
      ListRest c count h most o (reported_by l y) z (spare - 1) (made_by l b ++ w) ls
  list_rest_checked h most o y z spare b w l ls k r =
      let one = checked_one l ls k in
      let few = r.few in
      record {
        claim = r.claim;
        meet = r.meet;
        steps = r.steps.1;
        lean = subst (λ t. AreLean (TheFirst c) most t (reported_by l y) (made_by l b ++ w) ls) (opens_same o l k) r.lean.2;
        few = omega (arith, one.0);
        all = λ p. ⊎_elim (λ q. inl (omega (arith, one.0))) (λ q. inr q) (r.all (omega (arith, one.1)));
        room = r.room;
      }

  list_too_early : (h g : Head) (most other : Option ℕ) (o : Bool) (y z z' spare : ℕ) (b : Box) (w : List Box) (l : TreeLine)
      (ls ms : List TreeLine) → ListRest c count h most o y z spare (b ∷ w) (Unsearched ∷ ls) → IsChecked l →
      ListRest c count g other o y z' spare (b ∷ w) (l ∷ ms) → ⊥
  list_too_early h g most other o y z z' spare b w l ls ms r k s =
      let none = none_after (TheFirst c) most ls y w r.lean.2 in
      let same = none_told_after c.model c.spans (TheFirst c) most h ls y w [] z r.lean.2 r.steps.1 in
      let more = told_more c.model c.spans g (l ∷ ms) y (b ∷ w) [] z' s.steps in
      let few = s.few in
      ⊎_elim
      (λ q. omega (arith, (checked_one l ms k).0))
      (λ q. ⊎_elim
      (λ t. let a = subst (λ z. MatchOption z (Unit {0}) (λ m. y < m)) t (in_time other o y l k s.lean.0).1 in omega arith)
      (λ t. omega arith)
      s.room)
      (r.all (omega arith))

  module _ (e : Known c) (h g : Head) (most other : Option ℕ) (z z' : ℕ) where
    same_lists : (ls ms : List TreeLine) (o : Bool) (y spare : ℕ) (w : List Box) → AreParts c.model.cells w →
        ListRest c count h most o y z spare w ls → ListRest c count g other o y z' spare w ms → ls ≡ ms
    same_lists [] [] o y spare w bs r s = refl
    same_lists [] (k ∷ ms) o y spare [] bs r s = absurd s.steps
    same_lists [] (k ∷ ms) o y spare (b ∷ w) bs r s = absurd (let q = r.steps.0 in cc)
    same_lists (l ∷ ls) [] o y spare [] bs r s = absurd r.steps
    same_lists (l ∷ ls) [] o y spare (b ∷ w) bs r s = absurd (let q = s.steps.0 in cc)
    same_lists (l ∷ ls) (k ∷ ms) o y spare [] bs r s = absurd r.steps
    same_lists (l ∷ ls) (d ∷ ms) o y spare (b ∷ w) bs r s =
        ⊎_elim
        (λ k. ⊎_elim
        (λ k'.
        let p : l ≡ d = list_fixes c e b bs.0 h y l r.claim r.meet k r.steps.0 r.lean.1
        ∙ sym (list_fixes c e b bs.0 g y d s.claim s.meet k' s.steps.0 s.lean.1) in
        let rest = list_rest_checked h most o y z spare b w l ls k r in
        let also = list_rest_checked g other o y z' spare b w l ms k (subst (λ t. ListRest c count g other o y z' spare (b ∷ w) (t ∷ ms)) (sym p) s) in
        ap (λ t. l ∷ t)
        (same_lists ls ms o (reported_by l y) (spare - 1) (made_by l b ++ w)
        (parts_made c.model c.spans h y l b w bs r.steps.0) rest also)
        ∙ ap (λ t. t ∷ ms) p)
        (λ q. absurd (list_too_early g h other most o y z' z spare b w l ms ls
        (subst (λ t. ListRest c count g other o y z' spare (b ∷ w) (t ∷ ms)) q s) k r))
        (checked_or d))
        (λ q. ⊎_elim
        (λ k. absurd (list_too_early h g most other o y z z' spare b w d ls ms (subst (λ t. ListRest c count h most o y z spare (b ∷ w) (t ∷ ls)) q r) k s))
        (λ q'.
        let rest = list_rest_open h most o y z spare b w ls (subst (λ t. ListRest c count h most o y z spare (b ∷ w) (t ∷ ls)) q r) in
        let also = list_rest_open g other o y z' spare b w ms (subst (λ t. ListRest c count g other o y z' spare (b ∷ w) (t ∷ ms)) q' s) in
        ap (λ t. t ∷ ls) q ∙ ap (λ t. Unsearched ∷ t) (same_lists ls ms true y spare w bs.1 rest also) ∙ ap (λ t. t ∷ ms) (sym q'))
        (checked_or d))
        (checked_or l)

-- what the yes lines report

module _ (m : ModelParts) (s : Spans) (h g : Head) where
  same_count : (ls : List TreeLine) (y : ℕ) (w v v' : List Box) (z z' : ℕ) → Steps m s h w y ls v z → Steps m s g w y ls v' z' → z ≡ z'
  same_count [] y w v v' z z' p q = sym p.1 ∙ q.1
  same_count (l ∷ ls) y [] v v' z z' p q = absurd p
  same_count (l ∷ ls) y (b ∷ w) v v' z z' p q = same_count ls (reported_by l y) (made_by l b ++ w) v v' z z' p.1 q.1

  same_told : (ls : List TreeLine) (y : ℕ) (w v v' : List Box) (z z' : ℕ) → Steps m s h w y ls v z → Steps m s g w y ls v' z' → (i : ℕ) → y ≤ i → i < z →
      slice_get h.series i ≡ slice_get g.series i
  same_told [] y w v v' z z' p q i a d = absurd (omega (arith, p.1))
  same_told (l ∷ ls) y [] v v' z z' p q i a d = absurd p
  same_told (Split k t ∷ ls) y (b ∷ w) v v' z z' p q i a d = same_told ls y (made_by (Split k t) b ++ w) v v' z z' p.1 q.1 i a d
  same_told (Remove k u j ∷ ls) y (b ∷ w) v v' z z' p q i a d = same_told ls y (made_by (Remove k u j) b ++ w) v v' z z' p.1 q.1 i a d
  same_told (No j r ∷ ls) y (b ∷ w) v v' z z' p q i a d = same_told ls y w v v' z z' p.1 q.1 i a d
  same_told (Worse r ∷ ls) y (b ∷ w) v v' z z' p q i a d = same_told ls y w v v' z z' p.1 q.1 i a d
  same_told (Unsearched ∷ ls) y (b ∷ w) v v' z z' p q i a d = same_told ls y w v v' z z' p.1 q.1 i a d
  same_told (Yes ∷ ls) y (b ∷ w) v v' z z' p q i a d =
      ⊎_elim
      (λ e.
      let x : p.0.series ≡ q.0.series = only_series q.0.series p.0.series
      (subst (λ b. InBox p.0.series b) (sym p.0.alone ∙ q.0.alone) (in_box_of p.0.series)) in
      ap (λ n. slice_get h.series n) (sym e) ∙ p.0.listed ∙ ap Some x ∙ sym q.0.listed ∙ ap (λ n. slice_get g.series n) e)
      (λ e. same_told ls (y + 1) w v v' z z' p.1 q.1 i (omega (arith, e)) d)
      (eq-or-lt_of_le a)

same_at : (xs ys : List (List ℤ)) → length xs ≡ length ys → ((i : ℕ) → i < length xs → slice_get xs i ≡ slice_get ys i) → xs ≡ ys
same_at [] [] e h = refl
same_at [] (y ∷ ys) e h = absurd (omega arith)
same_at (x ∷ xs) [] e h = absurd (omega arith)
same_at (x ∷ xs) (y ∷ ys) e h =
    let first : ◌≡◌ {A = Option (List ℤ)} (Some x) (Some y) = h 0 (omega arith) in
    let one : x ≡ y = cc in
    ap (λ z. z ∷ xs) one ∙ ap (λ z. y ∷ z) (same_at xs ys (omega arith) (λ i l. h (suc i) (omega arith)))

-- what a listed certificate's claim says

module _ (m : ModelParts) (count n : ℕ) where
  list_claimed : (claim : Claim) (xs : List (List ℤ)) (ls : List TreeLine) → IsListedBy m count n claim xs ls → claimed_value claim ≡ None
  list_claimed (Best v) xs ls l = absurd l
  list_claimed Infeasible xs ls l = refl
  list_claimed (BudgetBest v) xs ls l = absurd l
  list_claimed BudgetNone xs ls l = refl
  list_claimed (Full k) xs ls l = refl
  list_claimed (All k) xs ls l = refl
  list_claimed (BudgetList k) xs ls l = refl

  list_spent : (claim : Claim) (xs : List (List ℤ)) (ls : List TreeLine) → IsListedBy m count n claim xs ls →
      ((MayStayOpen claim → ⊥) → open_count ls ≡ 0) → 0 < open_count ls → (checked_count ls ≡ n) ⊎ (length xs ≡ count)
  list_spent (Best v) xs ls l k p = absurd l
  list_spent Infeasible xs ls l k p = absurd l
  list_spent (BudgetBest v) xs ls l k p = absurd l
  list_spent BudgetNone xs ls l k p = absurd l
  list_spent (Full j) xs ls l k p = inr (sym l.0 ∙ l.1)
  list_spent (All j) xs ls l k p = absurd (let e = k (λ z. z) in omega arith)
  list_spent (BudgetList j) xs ls l k p = inl l.2

  list_room : (claim : Claim) (xs : List (List ℤ)) (ls : List TreeLine) → IsListedBy m count n claim xs ls →
      (most_reported claim ≡ Some count) ⊎ (length xs < count)
  list_room (Best v) xs ls l = absurd l
  list_room Infeasible xs ls l = absurd l
  list_room (BudgetBest v) xs ls l = absurd l
  list_room BudgetNone xs ls l = absurd l
  list_room (Full j) xs ls l = inl (ap Some l.1)
  list_room (All j) xs ls l = inr (omega (arith, l.0, l.1))
  list_room (BudgetList j) xs ls l = inr (omega (arith, l.0, l.1))

  -- the claim is known from the length of the listing and the open lines
  list_same_claim : (ls : List TreeLine) (xs : List (List ℤ)) (a b : Claim) → IsListedBy m count n a xs ls → IsListedBy m count n b xs ls →
      ((MayStayOpen a → ⊥) → open_count ls ≡ 0) → ((MayStayOpen b → ⊥) → open_count ls ≡ 0) → a ≡ b
  list_same_claim ls xs (Full i) (Full j) p q k l = ap Full (p.0 ∙ sym q.0)
  list_same_claim ls xs (Full i) (All j) p q k l = absurd (omega (arith, p.0, p.1, q.0, q.1))
  list_same_claim ls xs (Full i) (BudgetList j) p q k l = absurd (omega (arith, p.0, p.1, q.0, q.1))
  list_same_claim ls xs (All i) (Full j) p q k l = absurd (omega (arith, p.0, p.1, q.0, q.1))
  list_same_claim ls xs (All i) (All j) p q k l = ap All (p.0 ∙ sym q.0)
  list_same_claim ls xs (All i) (BudgetList j) p q k l = absurd (let e = k (λ z. z) in omega (arith, q.3))
  list_same_claim ls xs (BudgetList i) (Full j) p q k l = absurd (omega (arith, p.0, p.1, q.0, q.1))
  list_same_claim ls xs (BudgetList i) (All j) p q k l = absurd (let e = l (λ z. z) in omega (arith, p.3))
  list_same_claim ls xs (BudgetList i) (BudgetList j) p q k l = ap BudgetList (p.0 ∙ sym q.0)
  list_same_claim ls xs (Best v) b p q k l = absurd p
  list_same_claim ls xs Infeasible b p q k l = absurd p
  list_same_claim ls xs (BudgetBest v) b p q k l = absurd p
  list_same_claim ls xs BudgetNone b p q k l = absurd p
  list_same_claim ls xs (Full i) (Best v) p q k l = absurd q
  list_same_claim ls xs (Full i) Infeasible p q k l = absurd q
  list_same_claim ls xs (Full i) (BudgetBest v) p q k l = absurd q
  list_same_claim ls xs (Full i) BudgetNone p q k l = absurd q
  list_same_claim ls xs (All i) (Best v) p q k l = absurd q
  list_same_claim ls xs (All i) Infeasible p q k l = absurd q
  list_same_claim ls xs (All i) (BudgetBest v) p q k l = absurd q
  list_same_claim ls xs (All i) BudgetNone p q k l = absurd q
  list_same_claim ls xs (BudgetList i) (Best v) p q k l = absurd q
  list_same_claim ls xs (BudgetList i) Infeasible p q k l = absurd q
  list_same_claim ls xs (BudgetList i) (BudgetBest v) p q k l = absurd q
  list_same_claim ls xs (BudgetList i) BudgetNone p q k l = absurd q

module _ (c : Search) (e : Known c) (count n : ℕ) where
  list_steps : (a : Cert) → HasList c count n a → Steps c.model c.spans (head_of a) (c.model.cells ∷ []) 0 a.tree [] (length a.series)
  list_steps a l =
      let t = l.accepts.tree in
      let all : reported_after t.tree 0 ≡ length a.series = subst (λ z. AllReported z (reported_after t.tree 0) (length a.series)) l.aim t.reported in
      subst (λ z. Steps c.model c.spans (head_of a) (c.model.cells ∷ []) 0 a.tree [] z) all (steps_of c.model c.spans a t)

  abbrev IsLean : Cert → Type 0
  IsLean a = AreLean (TheFirst c) (most_reported a.claim) false 0 (c.model.cells ∷ []) a.tree

  list_rest : (a : Cert) → HasList c count n a → IsLean a →
      ListRest c count (head_of a) (most_reported a.claim) false 0 (length a.series) n (c.model.cells ∷ []) a.tree
  list_rest a l lean = record {
    claim = list_claimed c.model count n a.claim a.series a.tree l.claim;
    meet = l.first.meet;
    steps = list_steps a l;
    lean = lean;
    few = l.within;
    all = list_spent c.model count n a.claim a.series a.tree l.claim
        (λ k. closed_steps c.model c.spans (head_of a) k a.tree 0 (c.model.cells ∷ []) [] (length a.series) (list_steps a l));
    room = list_room c.model count n a.claim a.series a.tree l.claim;
  }

  pub one_listing : (a b : Cert) → HasList c count n a → IsLean a → HasList c count n b → IsLean b → a ≡ b
  one_listing a b p lean q also =
      let all = c.model.cells ∷ [] in
      let h = head_of a in
      let g = head_of b in
      let la = length a.series in
      let lb = length b.series in
      let sa = list_steps a p in
      let sb = list_steps b q in
      let trees = same_lists c count e h g (most_reported a.claim) (most_reported b.claim) la lb a.tree b.tree false 0 n all (part_self c.model.cells e.box, tt)
      (list_rest a p lean) (list_rest b q also) in
      let sc = subst (λ z. Steps c.model c.spans h all 0 z [] la) trees sa in
      let long = same_count c.model c.spans h g b.tree 0 all [] [] la lb sc sb in
      let series = same_at a.series b.series long (λ i l. same_told c.model c.spans h g b.tree 0 all [] [] la lb sc sb i (omega arith) l) in
      let claim = list_same_claim c.model count n b.tree b.series a.claim b.claim
      (subst (λ z. IsListedBy c.model count n a.claim z b.tree) series (subst (λ z. IsListedBy c.model count n a.claim a.series z) trees p.claim)) q.claim
      (λ k. closed_steps c.model c.spans h k b.tree 0 all [] la sc) (λ k. closed_steps c.model c.spans g k b.tree 0 all [] lb sb) in
      same_certificate a b (p.aim ∙ sym q.aim) claim series trees

  spent_all : (claim : Claim) (xs : List (List ℤ)) (ls : List TreeLine) → IsListedBy c.model count n claim xs ls → IsBudget claim →
      n + 1 ≤ checked_count ls + open_count ls
  spent_all (Best v) xs ls s b = absurd b
  spent_all Infeasible xs ls s b = absurd b
  spent_all (BudgetBest v) xs ls s b = absurd s
  spent_all BudgetNone xs ls s b = absurd s
  spent_all (Full k) xs ls s b = absurd b
  spent_all (All k) xs ls s b = absurd b
  spent_all (BudgetList k) xs ls s b = omega (arith, s.2, s.3)

  pub list_no_budget : (a : Cert) → HasList c count n a → 2 * series_count c.model.cells ≤ n + 1 → IsBudget a.claim → ⊥
  list_no_budget a l few b =
      omega (arith, spent_all a.claim a.series a.tree l.claim b, all_lines a.tree, tree_size c e a l.accepts.tree, few)
