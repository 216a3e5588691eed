-- Cells and series as the code reads them: the ends of a domain, and lexicographic order.
use Rattle.std.proofs.Common.{◌≡◌, ◌≢◌, ◌↔◌, ℕ, zero, suc, ◌+◌, ◌≤◌, ℤ, ◌≤ℤ◌, ◌<ℤ◌, int_le, int_lt, true, false, IsTrue, List, [], ◌∷◌, length, drop, Option, Some, None, slice_get, inl, inr, ⊎_elim, sym, ◌∙◌, ap, subst, arith}
use Rattle.std.specs.Prelude.{Contains}
use Rattle.std.proofs.lemmas.Bool.{false≢true}
use Rattle.std.proofs.lemmas.Int.{ints}
use Rattle.std.proofs.lemmas.List.{drop_all}
use Rattle.std.proofs.lemmas.Option.{same_Some}
use Rattle.ts_domain.specs.BoxSeries.{IsBefore}
use Rattle.ts_domain.specs.Kept.{values_up_to, values_above}
use Rattle.ts_domain.proofs.BoxLaws.{contains_up_to, contains_above, some_stay}
use Rattle.ts_domain.proofs.Sets.{filter_none, le_false, lt_false}
use Rattle.ts_filter.proofs.BoxParts.{at_most_or_above}

-- the ends of a domain

above_all : (low v t : ℤ) → low ≤ℤ v → t <ℤ low → t <ℤ v
above_all low v t h l = omega (arith, ints, h, l)

below_all : (high v t : ℤ) → v ≤ℤ high → high ≤ℤ t → v ≤ℤ t
below_all high v t h l = omega (arith, ints, h, l)

-- there are values up to t where the least is one, and values above where the greatest is one
pub low_some : (d : List ℤ) (low t : ℤ) → Contains d low → ((v : ℤ) → Contains d v → low ≤ℤ v) → (low ≤ℤ t) ↔ (values_up_to t d ≡ [] → ⊥)
low_some d low t here least = (
  λ l. some_stay (values_up_to t d) low ((contains_up_to t d low).1 (here, l)),
  λ n. ⊎_elim (λ l. l)
      (λ l. absurd (n (filter_none (λ v. int_le v t) d (λ v c. le_false v t (above_all low v t (least v c) l)))))
      (at_most_or_above low t),
)

pub high_some : (d : List ℤ) (high t : ℤ) → Contains d high → ((v : ℤ) → Contains d v → v ≤ℤ high) → (t <ℤ high) ↔ (values_above t d ≡ [] → ⊥)
high_some d high t here greatest = (
  λ k. some_stay (values_above t d) high ((contains_above t d high).1 (here, k)),
  λ none. ⊎_elim
      (λ k. absurd (none (filter_none (λ v. int_lt t v) d (λ v c. lt_false t v (below_all high v t (greatest v c) k)))))
      (λ k. k) (at_most_or_above high t),
)

high_test : (a b : ℤ) → (int_lt a b ≡ true) ↔ (a <ℤ b)
high_test a b = (λ h. grind (arith, ints), λ h. grind (arith, ints))

-- where t isn't below the least value, the greatest one decides whether there are both sides
pub sides_told : (d : List ℤ) (low high t t' high' : ℤ) → t' ≡ t → high' ≡ high → low ≤ℤ t → Contains d low → Contains d high →
    ((v : ℤ) → Contains d v → (low ≤ℤ v) × (v ≤ℤ high)) → IsTrue (int_lt t' high') ↔ ((values_up_to t d ≢ []) × (values_above t d ≢ []))
sides_told d low high t t' high' at end reached least greatest all =
    let same = ap (λ z. int_lt z high') at ∙ ap (int_lt t) end in
    let below = (low_some d low t least (λ v c. (all v c).0)).0 reached in
    let above = high_some d high t greatest (λ v c. (all v c).1) in
    (λ h. (below, above.0 ((high_test t high).0 (sym same ∙ h))), λ f. same ∙ (high_test t high).1 (above.1 f.1))

-- where t is below the least value, there is no lower side
pub none_below : (d : List ℤ) (low t low' t' : ℤ) → low' ≡ low → t' ≡ t → t <ℤ low → Contains d low → ((v : ℤ) → Contains d v → low ≤ℤ v) →
    IsTrue (int_le low' t') ↔ ((values_up_to t d ≢ []) × (values_above t d ≢ []))
none_below d low t low' t' start at less least all =
    let same = ap (λ z. int_le z t') start ∙ ap (int_le low) at in (
      λ h. absurd (never low t less ((low_test low t).0 (sym same ∙ h))),
      λ f. absurd (never low t less ((low_some d low t least all).1 f.0)),
    )
  where
    low_test : (a b : ℤ) → (int_le a b ≡ true) ↔ (a ≤ℤ b)
    low_test a b = (λ h. grind (arith, ints), λ h. grind (arith, ints))

    never : (low t : ℤ) → t <ℤ low → low ≤ℤ t → ⊥
    never low t l h = omega (arith, ints, l, h)

-- lexicographic order, from a place on

at_drop : (x : List ℤ) (i : ℕ) (v : ℤ) → slice_get x i ≡ Some v → drop i x ≡ v ∷ drop (i + 1) x
at_drop [] i v e = absurd (let f : ◌≡◌ {A = Option ℤ} None (Some v) = e in cc)
at_drop (y ∷ x) zero v e = ap (λ z. z ∷ x) (same_Some y v e)
at_drop (y ∷ x) (suc i) v e =
    let more : suc i + 1 ≡ suc (i + 1) = omega arith in
    at_drop x i v e ∙ ap (λ n. v ∷ drop n (y ∷ x)) (sym more)

-- the rest of the first comes before the rest of the second
abbrev pub IsBeforeFrom : ℕ → List ℤ → List ℤ → Type 0
IsBeforeFrom i earlier later = IsBefore (drop i earlier) (drop i later)

-- a greater value isn't before a lesser one
pub after_here : (x y : List ℤ) (i : ℕ) (u v : ℤ) → slice_get x i ≡ Some u → slice_get y i ≡ Some v → v <ℤ u → IsBeforeFrom i x y → ⊥
after_here x y i u v p q l h =
    never u v l (subst (λ z. IsBefore (u ∷ drop (i + 1) x) z) (at_drop y i v q) (subst (λ z. IsBefore z (drop i y)) (at_drop x i u p) h))
  where
    never : (u v : ℤ) → v <ℤ u → IsBefore (u ∷ drop (i + 1) x) (v ∷ drop (i + 1) y) → ⊥
    never u v l (inl k) = omega (arith, ints, l, k)
    never u v l (inr r) = absurd (clash u v r.0 l)
      where
        clash : (u v : ℤ) → u ≡ v → v <ℤ u → ⊥
        clash u v e l = grind (arith, ints)

-- nothing comes before the end
pub ended_before : (x y : List ℤ) (i : ℕ) (u : ℤ) → slice_get x i ≡ Some u → length y ≤ i → IsBeforeFrom i x y → ⊥
ended_before x y i u p short h =
    subst (λ z. IsBefore (u ∷ drop (i + 1) x) z) (none y i short) (subst (λ z. IsBefore z (drop i y)) (at_drop x i u p) h)
  where
    none : (y : List ℤ) (i : ℕ) → length y ≤ i → drop i y ≡ []
    none y i l = drop_all i y l

pub none_told : (P : Type 0) → (P → ⊥) → (IsTrue false → P) × (P → IsTrue false)
none_told P n = (λ no. absurd (false≢true no), λ h. absurd (n h))
