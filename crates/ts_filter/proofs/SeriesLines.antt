-- What the series lines say together.
use Rattle.std.proofs.Common.{◌≡◌, ◌⊎◌, ℤ, ◌<ℤ◌, List, [], ◌∷◌, ◌++◌, length, Some, refl, sym, ◌∙◌, subst, inl, inr, ⊎_elim, arith, append_assoc, append-nil}
use Rattle.std.proofs.lemmas.Int.{ints}
use Rattle.std.specs.List.{AllByRecursion}
use Rattle.ts_base.specs.declared.ext.Ext.{Ext}
use Rattle.ts_certificate.specs.declared.certificate.Claim.{Claim}
use Rattle.ts_certificate.specs.declared.certificate.Claim.TheVariants.{Best, Infeasible, BudgetBest, BudgetNone}
use Rattle.ts_certificate.specs.declared.certificate.Claim.TheVariants.{Full, All, BudgetList}
use Rattle.ts_certificate.specs.Grammar.{series_count}
use Rattle.ts_domain.specs.BoxSeries.{IsBefore}
use Rattle.ts_model.specs.Meets.{Meets}
use Rattle.ts_model.specs.ModelParts.{ModelParts}
use Rattle.ts_model.specs.FirstBest.{objective_of}
use Rattle.ts_filter.specs.Accepts.{ComesAfter, IsAsClaimed, AllFit}
use Rattle.ts_filter.specs.Boxes.{Box, InSome}
use Rattle.ts_filter.specs.Holds.{IsOne, IsListed, AllDiffer, ListHolds}

-- lexicographic order

before_not : (x : List ℤ) → IsBefore x x → ⊥
before_not [] e = e
before_not (v ∷ x) e = ⊎_elim (λ a. absurd (omega (arith, ints, a))) (λ a. before_not x a.1) e

before_trans : (x y z : List ℤ) → IsBefore x y → IsBefore y z → IsBefore x z
before_trans [] y z p q = absurd p
before_trans (a ∷ x) [] z p q = absurd p
before_trans (a ∷ x) (b ∷ y) [] p q = absurd q
before_trans (a ∷ x) (b ∷ y) (c ∷ z) p q =
    ⊎_elim
    (λ f. ⊎_elim (λ g. inl (omega (arith, ints, f, g))) (λ g. inl (subst (λ u. a <ℤ u) g.0 f)) q)
    (λ f. ⊎_elim (λ g. inl (subst (λ u. u <ℤ c) (sym f.0) g)) (λ g. inr (f.0 ∙ g.0, before_trans x y z f.1 g.1)) q)
    p

-- each series comes after the one before it
abbrev pub Climbs : List (List ℤ) → Type 0
Climbs [] = Unit {0}
Climbs (x ∷ []) = Unit {0}
Climbs (x ∷ z ∷ xs) = IsBefore x z × Climbs (z ∷ xs)

climb_later : (x z : List ℤ) (xs : List (List ℤ)) → Climbs (x ∷ xs) → IsListed z xs → IsBefore x z
climb_later x z [] c i = absurd i
climb_later x z (a ∷ xs) c i =
    ⊎_elim (λ e. subst (λ u. IsBefore x u) (sym e) c.0) (λ r. before_trans x a z c.0 (climb_later a z xs c.1 r)) i

climb_tail : (x : List ℤ) (xs : List (List ℤ)) → Climbs (x ∷ xs) → Climbs xs
climb_tail x [] c = tt
climb_tail x (a ∷ xs) c = c.1

climb_differ : (xs : List (List ℤ)) → Climbs xs → AllDiffer xs
climb_differ [] c = tt
climb_differ (x ∷ xs) c = ((λ i. before_not x (climb_later x x xs c i)), climb_differ xs (climb_tail x xs c))

climb_one : (done : List (List ℤ)) (x : List ℤ) → Climbs done → ComesAfter done x → Climbs (done ++ x ∷ [])
climb_one [] x c l = tt
climb_one (z ∷ []) x c l = (l, tt)
climb_one (z ∷ y ∷ zs) x c l = (c.0, climb_one (y ∷ zs) x c.1 l)

-- all series lines keep their rule: they meet, and are the one with the claimed objective, or climb
abbrev pub AreFit : ModelParts → Claim → List (List ℤ) → Type 0
AreFit m (Best v) series = IsOne m v series
AreFit m Infeasible series = Unit {0}
AreFit m (BudgetBest v) series = IsOne m v series
AreFit m BudgetNone series = Unit {0}
AreFit m (Full c) series = AllByRecursion (Meets m) series × Climbs series
AreFit m (All c) series = AllByRecursion (Meets m) series × Climbs series
AreFit m (BudgetList c) series = AllByRecursion (Meets m) series × Climbs series

fit_meet : (m : ModelParts) (c : Claim) (done xs : List (List ℤ)) → AllFit m c done xs → AllByRecursion (Meets m) xs
fit_meet m c done [] k = tt
fit_meet m c done (x ∷ xs) k = (k.0.meets, fit_meet m c (done ++ x ∷ []) xs k.1)

fit_climb : (m : ModelParts) (c : Claim) → ((ys : List (List ℤ)) (x : List ℤ) → IsAsClaimed m c ys x → ComesAfter ys x) → (xs done : List (List ℤ)) →
    Climbs done → AllFit m c done xs → Climbs (done ++ xs)
fit_climb m c g [] done h k = subst Climbs (sym (append-nil done)) h
fit_climb m c g (x ∷ xs) done h k =
    subst Climbs (append_assoc done (x ∷ []) xs) (fit_climb m c g xs (done ++ x ∷ []) (climb_one done x h (g done x k.0.claimed)) k.1)

fit_one : (m : ModelParts) (v : Ext) (c : Claim) → ((ys : List (List ℤ)) (x : List ℤ) → IsAsClaimed m c ys x → objective_of m x ≡ Some v) →
    (xs : List (List ℤ)) → length xs ≡ 1 → AllFit m c [] xs → IsOne m v xs
fit_one m v c g [] n k = absurd (omega (arith, n))
fit_one m v c g (x ∷ []) n k = record { x = x; alone = refl; meets = k.0.meets; value = g [] x k.0.claimed }
fit_one m v c g (x ∷ z ∷ xs) n k = absurd (omega (arith, n))

pub fit_all : (m : ModelParts) (c : Claim) (xs : List (List ℤ)) → length xs ≡ series_count c → AllFit m c [] xs → AreFit m c xs
fit_all m (Best v) xs n k = fit_one m v (Best v) (λ ys x e. e) xs n k
fit_all m Infeasible xs n k = tt
fit_all m (BudgetBest v) xs n k = fit_one m v (BudgetBest v) (λ ys x e. e) xs n k
fit_all m BudgetNone xs n k = tt
fit_all m (Full c) xs n k = (fit_meet m (Full c) [] xs k, fit_climb m (Full c) (λ ys x e. e) xs [] tt k)
fit_all m (All c) xs n k = (fit_meet m (All c) [] xs k, fit_climb m (All c) (λ ys x e. e) xs [] tt k)
fit_all m (BudgetList c) xs n k = (fit_meet m (BudgetList c) [] xs k, fit_climb m (BudgetList c) (λ ys x e. e) xs [] tt k)

pub fits_list : (m : ModelParts) (series : List (List ℤ)) (opens : List Box) → AllByRecursion (Meets m) series × Climbs series →
    ((x : List ℤ) → Meets m x → IsListed x series ⊎ InSome opens x) → ListHolds m series opens
fits_list m series opens g f = record { differ = climb_differ series g.1; meet = g.0; others = f }
