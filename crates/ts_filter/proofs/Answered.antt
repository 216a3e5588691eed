-- What is accepted is true: each series that meets is answered by a line of the tree.
use Rattle.std.proofs.Common.{◌≡◌, ◌⊎◌, ℕ, zero, suc, ◌+◌, ◌<◌, ◌≤◌, ℤ, false, List, [], ◌∷◌, slice_get, Option, Some, None, MatchOption, sym, ◌∙◌, ap, subst, inl, inr, ⊎_elim, arith}
use Rattle.std.specs.List.{AllByRecursion}
use Rattle.ts_base.specs.declared.ext.Ext.{Ext}
use Rattle.ts_base.specs.declared.goal.Goal.{Goal}
use Rattle.ts_certificate.specs.declared.certificate.Aim.{Aim}
use Rattle.ts_certificate.specs.declared.certificate.Aim.TheVariants.{Best as BestOf, List as ListOf}
use Rattle.ts_certificate.specs.declared.certificate.Claim.{Claim}
use Rattle.ts_certificate.specs.declared.certificate.Claim.TheVariants.{Best, Infeasible, BudgetBest, BudgetNone}
use Rattle.ts_certificate.specs.declared.certificate.Claim.TheVariants.{Full, All, BudgetList}
use Rattle.ts_certificate.specs.declared.certificate.TreeLine.{TreeLine}
use Rattle.ts_certificate.specs.declared.certificate.TreeLine.TheVariants.{Split, Remove, No, Worse, Yes, Unsearched}
use Rattle.ts_domain.specs.BoxSeries.{InBox}
use Rattle.ts_model.specs.Meets.{Meets}
use Rattle.ts_model.specs.ModelParts.{ModelParts}
use Rattle.ts_filter.specs.declared.bar.Bar.TheVariants.{Better}
use Rattle.ts_model.specs.FirstBest.{objective_of, is_better}
use Rattle.ts_filter.specs.Accepts.{ClaimFits}
use Rattle.ts_filter.specs.Boxes.{Box, low_side, high_side, without, only, IsPart, InSome}
use Rattle.ts_filter.specs.Holds.{IsBetter, IsListed, ClaimHolds}
use Rattle.ts_filter.specs.Laws.{IsSound, AcceptedHolds}
use Rattle.ts_filter.specs.RefutedWorseDrop.{Spans, IsDrop}
use Rattle.ts_filter.specs.Rules.{Head, head_of, IsNext, IsWorseFor, claimed_value, IsListing, MayStayOpen}
use Rattle.ts_filter.specs.Steps.{Steps, open_boxes}
use Rattle.ts_filter.specs.Tree.{reported_after}
use Rattle.ts_filter.proofs.BoxParts.{in_a_side, only_or_without, only_part, only_series, part_self}
use Rattle.ts_filter.proofs.TreeLaws.{parts_made, to_steps}
use Rattle.ts_filter.proofs.SeriesLines.{fit_all, AreFit, fits_list}

-- the series isn't better than what is claimed
abbrev pub IsNoBetter : ModelParts → Aim → Ext → List ℤ → Type 0
IsNoBetter m (BestOf goal) v x = (w : Ext) → objective_of m x ≡ Some w → is_better goal w v ≡ false
IsNoBetter m (ListOf count) v x = ⊥

-- the series had its `yes`
pub record WasTold (series : List (List ℤ)) (told after : ℕ) (x : List ℤ) : Type 0 where
  pub place : ℕ
  pub from : told ≤ place
  pub below : place < after
  pub listed : slice_get series place ≡ Some x

pub data Answered (m : ModelParts) (h : Head) (opens left : List Box) (told after : ℕ) (x : List ℤ) : Type 0 where
  in_open : InSome opens x → Answered m h opens left told after x
  in_waiting : InSome left x → Answered m h opens left told after x
  is_no_better : MatchOption (claimed_value h.claim) ⊥ (λ v. IsNoBetter m h.aim v x) → Answered m h opens left told after x
  was_told : WasTold h.series told after x → Answered m h opens left told after x

more_open : {m : ModelParts} {h : Head} {opens left : List Box} {told after : ℕ} {x : List ℤ} (b : Box) → Answered m h opens left told after x →
    Answered m h (b ∷ opens) left told after x
more_open b (in_open a) = in_open (inr a)
more_open b (in_waiting a) = in_waiting a
more_open b (is_no_better a) = is_no_better a
more_open b (was_told a) = was_told a

more_told : {m : ModelParts} {h : Head} {opens left : List Box} {told after : ℕ} {x : List ℤ} → Answered m h opens left (told + 1) after x →
    Answered m h opens left told after x
more_told (in_open a) = in_open a
more_told (in_waiting a) = in_waiting a
more_told (is_no_better a) = is_no_better a
more_told (was_told a) = was_told (record { place = a.place; from = (let n = a.from in omega arith); below = a.below; listed = a.listed })

module _ (m : ModelParts) (s : Spans) (h : Head) where
  -- the number of `yes` lines only grows
  pub told_more : (ls : List TreeLine) (told : ℕ) (w left : List Box) (after : ℕ) → Steps m s h w told ls left after → told ≤ after
  told_more [] told w left after f = omega (arith, f.1)
  told_more (l ∷ ls) told [] left after f = absurd f
  told_more (Split k t ∷ ls) told (b ∷ w) left after f = told_more ls told (low_side k t b ∷ high_side k t b ∷ w) left after f.1
  told_more (Remove k v j ∷ ls) told (b ∷ w) left after f = told_more ls told (without k v b ∷ w) left after f.1
  told_more (No j p ∷ ls) told (b ∷ w) left after f = told_more ls told w left after f.1
  told_more (Worse p ∷ ls) told (b ∷ w) left after f = told_more ls told w left after f.1
  told_more (Yes ∷ ls) told (b ∷ w) left after f = let n = told_more ls (told + 1) w left after f.1 in omega arith
  told_more (Unsearched ∷ ls) told (b ∷ w) left after f = told_more ls told w left after f.1

  -- where no line may be `open`, none is
  none_open : (x : List ℤ) → (MayStayOpen h.claim → ⊥) → (ls : List TreeLine) (told : ℕ) (w left : List Box) (after : ℕ) →
      Steps m s h w told ls left after → InSome (open_boxes w ls) x → ⊥
  none_open x n [] told w left after f i = i
  none_open x n (l ∷ ls) told [] left after f i = i
  none_open x n (Split k t ∷ ls) told (b ∷ w) left after f i = none_open x n ls told (low_side k t b ∷ high_side k t b ∷ w) left after f.1 i
  none_open x n (Remove k v j ∷ ls) told (b ∷ w) left after f i = none_open x n ls told (without k v b ∷ w) left after f.1 i
  none_open x n (No j p ∷ ls) told (b ∷ w) left after f i = none_open x n ls told w left after f.1 i
  none_open x n (Worse p ∷ ls) told (b ∷ w) left after f i = none_open x n ls told w left after f.1 i
  none_open x n (Yes ∷ ls) told (b ∷ w) left after f i = none_open x n ls (told + 1) w left after f.1 i
  none_open x n (Unsearched ∷ ls) told (b ∷ w) left after f i = n f.0

  -- without a listing no line is `yes`
  none_told : (IsListing h.aim → ⊥) → (ls : List TreeLine) (told : ℕ) (w left : List Box) (after : ℕ) → Steps m s h w told ls left after → told ≡ after
  none_told n [] told w left after f = f.1
  none_told n (l ∷ ls) told [] left after f = absurd f
  none_told n (Split k t ∷ ls) told (b ∷ w) left after f = none_told n ls told (low_side k t b ∷ high_side k t b ∷ w) left after f.1
  none_told n (Remove k v j ∷ ls) told (b ∷ w) left after f = none_told n ls told (without k v b ∷ w) left after f.1
  none_told n (No j p ∷ ls) told (b ∷ w) left after f = none_told n ls told w left after f.1
  none_told n (Worse p ∷ ls) told (b ∷ w) left after f = none_told n ls told w left after f.1
  none_told n (Yes ∷ ls) told (b ∷ w) left after f = absurd (n f.0.listing)
  none_told n (Unsearched ∷ ls) told (b ∷ w) left after f = none_told n ls told w left after f.1

module _ (m : ModelParts) (s : Spans) (sound : IsSound m s) (h : Head) (x : List ℤ) (meets : Meets m x) where
  gone : (k : ℕ) (v : ℤ) (j : ℕ) (b : Box) → IsPart b m.cells → IsDrop m.requirements s k v j b → InBox x (only k v b) → ⊥
  gone k v j b i d a = sound.refuted j k (only k v b) x (only_part k v b m.cells i d.cell d.there) d.refuted a meets

  no_better : (a : Aim) (v : Ext) (p : ℕ) (b : Box) → IsPart b m.cells → InBox x b → IsWorseFor m s a v p b → IsNoBetter m a v x
  no_better (BestOf goal) v p b i a c = λ w e. sound.cut goal p b (Better v) x w i c a e
  no_better (ListOf count) v p b i a c = c

  worse : (o : Option Ext) (p : ℕ) (b : Box) → IsPart b m.cells → InBox x b → MatchOption o ⊥ (λ v. IsWorseFor m s h.aim v p b) →
      MatchOption o ⊥ (λ v. IsNoBetter m h.aim v x)
  worse None p b i a c = c
  worse (Some v) p b i a c = no_better h.aim v p b i a c

  answered : (ls : List TreeLine) (told : ℕ) (w left : List Box) (after : ℕ) → AllByRecursion (λ b. IsPart b m.cells) w → Steps m s h w told ls left after →
      InSome w x → Answered m h (open_boxes w ls) left told after x
  answered [] told w left after e f i = in_waiting (subst (λ z. InSome z x) f.0 i)
  answered (l ∷ ls) told [] left after e f i = absurd i
  answered (Split k t ∷ ls) told (b ∷ w) left after e f i =
      answered ls told (low_side k t b ∷ high_side k t b ∷ w) left after (parts_made m s h told (Split k t) b w e f.0) f.1
      (⊎_elim (λ a. ⊎_elim (λ c. inl c) (λ c. inr (inl c)) (in_a_side k t b x f.0.cell a)) (λ a. inr (inr a)) i)
  answered (Remove k v j ∷ ls) told (b ∷ w) left after e f i =
      answered ls told (without k v b ∷ w) left after (parts_made m s h told (Remove k v j) b w e f.0) f.1
      (⊎_elim (λ a. ⊎_elim (λ c. absurd (gone k v j b e.0 f.0 c)) (λ c. inl c) (only_or_without k v b x f.0.cell a)) (λ a. inr a) i)
  answered (No j p ∷ ls) told (b ∷ w) left after e f i =
      ⊎_elim (λ a. absurd (sound.refuted j p b x e.0 f.0 a meets)) (λ a. answered ls told w left after e.1 f.1 a) i
  answered (Worse p ∷ ls) told (b ∷ w) left after e f i =
      ⊎_elim (λ a. is_no_better (worse (claimed_value h.claim) p b e.0 a f.0)) (λ a. answered ls told w left after e.1 f.1 a) i
  answered (Yes ∷ ls) told (b ∷ w) left after e f i =
      ⊎_elim (λ a. was_told (now f.0 a)) (λ a. more_told (answered ls (told + 1) w left after e.1 f.1 a)) i
    where
      now : IsNext h told b → InBox x b → WasTold h.series told after x
      now n a = record {
        place = told;
        from = omega arith;
        below = (let more = told_more m s h ls (told + 1) w left after f.1 in omega arith);
        listed = n.listed ∙ ap Some (sym (only_series n.series x (subst (λ z. InBox x z) n.alone a)));
      }
  answered (Unsearched ∷ ls) told (b ∷ w) left after e f i =
      ⊎_elim (λ a. in_open (inl a)) (λ a. more_open b (answered ls told w left after e.1 f.1 a)) i

listed_at : (xs : List (List ℤ)) (i : ℕ) (x : List ℤ) → slice_get xs i ≡ Some x → IsListed x xs
listed_at [] i x e = absurd (let f : ◌≡◌ {A = Option (List ℤ)} None (Some x) = e in cc)
listed_at (a ∷ xs) zero x e = inl (let f : ◌≡◌ {A = Option (List ℤ)} (Some a) (Some x) = e in cc)
listed_at (a ∷ xs) (suc i) x e = inr (listed_at xs i x e)

-- by claim, from what is known of each series that meets
module _ (m : ModelParts) (series : List (List ℤ)) (opens : List Box) (after : ℕ) where
  abbrev HasAnswers : Aim → Claim → Type 0
  HasAnswers aim claim =
      (x : List ℤ) → Meets m x → Answered m (record { aim = aim; claim = claim; series = series }) opens [] 0 after x

  best_answered : (goal : Goal) (claim : Claim) (x : List ℤ) → 0 ≡ after →
      Answered m (record { aim = BestOf goal; claim = claim; series = series }) opens [] 0 after x →
      InSome opens x ⊎ MatchOption (claimed_value claim) ⊥ (λ v. IsNoBetter m (BestOf goal) v x)
  best_answered goal claim x t (in_open i) = inl i
  best_answered goal claim x t (in_waiting i) = absurd i
  best_answered goal claim x t (is_no_better i) = inr i
  best_answered goal claim x t (was_told i) = absurd (omega (arith, t, i.below))

  list_answered : (count : ℕ) (claim : Claim) (x : List ℤ) → ClaimFits (ListOf count) claim →
      Answered m (record { aim = ListOf count; claim = claim; series = series }) opens [] 0 after x → IsListed x series ⊎ InSome opens x
  list_answered count claim x f (in_open i) = inr i
  list_answered count claim x f (in_waiting i) = absurd i
  list_answered count (Best v) x f (is_no_better i) = absurd f
  list_answered count Infeasible x f (is_no_better i) = absurd f
  list_answered count (BudgetBest v) x f (is_no_better i) = absurd f
  list_answered count BudgetNone x f (is_no_better i) = absurd f
  list_answered count (Full c) x f (is_no_better i) = absurd i
  list_answered count (All c) x f (is_no_better i) = absurd i
  list_answered count (BudgetList c) x f (is_no_better i) = absurd i
  list_answered count claim x f (was_told i) = inl (listed_at series i.place x i.listed)

  by_claim : (aim : Aim) (claim : Claim) → HasAnswers aim claim → ((x : List ℤ) → (MayStayOpen claim → ⊥) → InSome opens x → ⊥) →
      ((IsListing aim → ⊥) → 0 ≡ after) → ClaimFits aim claim → AreFit m claim series → ClaimHolds m aim claim series opens
  by_claim (BestOf goal) (Best v) a o t f g = (g, λ x b. go x b (best_answered goal (Best v) x (t (λ z. z)) (a x b.meets)))
    where
      go : (x : List ℤ) → IsBetter m goal v x → InSome opens x ⊎ IsNoBetter m (BestOf goal) v x → ⊥
      go x b (inl i) = o x (λ z. z) i
      go x b (inr n) = let e = n b.value b.is in let c = b.better in grind arith
  by_claim (BestOf goal) Infeasible a o t f g =
      λ x q. ⊎_elim (λ i. o x (λ z. z) i) (λ i. i) (best_answered goal Infeasible x (t (λ z. z)) (a x q))
  by_claim (BestOf goal) (BudgetBest v) a o t f g =
      (g, λ x b. go x b (best_answered goal (BudgetBest v) x (t (λ z. z)) (a x b.meets)))
    where
      go : (x : List ℤ) → IsBetter m goal v x → InSome opens x ⊎ IsNoBetter m (BestOf goal) v x → InSome opens x
      go x b (inl i) = i
      go x b (inr n) = absurd (let e = n b.value b.is in let c = b.better in grind arith)
  by_claim (BestOf goal) BudgetNone a o t f g =
      λ x q. ⊎_elim (λ i. i) (λ i. absurd i) (best_answered goal BudgetNone x (t (λ z. z)) (a x q))
  by_claim (BestOf goal) (Full c) a o t f g = absurd f
  by_claim (BestOf goal) (All c) a o t f g = absurd f
  by_claim (BestOf goal) (BudgetList c) a o t f g = absurd f
  by_claim (ListOf count) (Best v) a o t f g = absurd f
  by_claim (ListOf count) Infeasible a o t f g = absurd f
  by_claim (ListOf count) (BudgetBest v) a o t f g = absurd f
  by_claim (ListOf count) BudgetNone a o t f g = absurd f
  by_claim (ListOf count) (Full c) a o t f g = fits_list m series opens g (λ x q. list_answered count (Full c) x f (a x q))
  by_claim (ListOf count) (All c) a o t f g =
      fits_list m series [] g (λ x q. ⊎_elim (λ i. inl i) (λ i. absurd (o x (λ z. z) i)) (list_answered count (All c) x f (a x q)))
  by_claim (ListOf count) (BudgetList c) a o t f g = fits_list m series opens g (λ x q. list_answered count (BudgetList c) x f (a x q))

pub accepted_holds : AcceptedHolds
accepted_holds m s c i sound a =
    let h = head_of c in
    let after = reported_after a.tree.tree 0 in
    let st : Steps m s h (m.cells ∷ []) 0 c.tree [] after =
    subst (λ z. Steps m s h (m.cells ∷ []) 0 z [] after) a.tree.lines (to_steps m s h m.cells a.tree.tree a.tree.fits) in
    by_claim m c.series (open_boxes (m.cells ∷ []) c.tree) after c.aim c.claim
    (λ x q. answered m s sound h x q c.tree 0 (m.cells ∷ []) [] after (part_self m.cells i, tt) st (inl q.inside))
    (λ x n. none_open m s h x n c.tree 0 (m.cells ∷ []) [] after st)
    (λ n. none_told m s h n c.tree 0 (m.cells ∷ []) [] after st)
    a.claim (fit_all m c.claim c.series a.count a.series)
