-- Two rising lists of the same numbers are one list.
use Rattle.std.proofs.Common.{◌≡◌, ℤ, ◌≤ℤ◌, ◌<ℤ◌, inl, inr, ◌↔◌, List, [], ◌∷◌, refl, ap, ◌∙◌, arith}
use Rattle.std.proofs.lemmas.Int.{ints}
use Rattle.std.specs.Prelude.{Contains}
use Rattle.std.specs.List.{AllByRecursion}
use Rattle.ts_domain.specs.Values.{IsRising}
use Rattle.ts_domain.proofs.Sets.{contains_cons, nothing_in, each_contains}

pub same_set : (xs ys : List ℤ) → IsRising xs → IsRising ys → ((v : ℤ) → Contains xs v ↔ Contains ys v) → xs ≡ ys
unfolding IsRising
same_set [] [] rise rise' same = refl
same_set [] (y ∷ ys) rise rise' same = absurd (nothing_in y ((same y).1 ((contains_cons y ys y).1 (inl refl))))
same_set (x ∷ xs) [] rise rise' same = absurd (nothing_in x ((same x).0 ((contains_cons x xs x).1 (inl refl))))
same_set (x ∷ xs) (y ∷ ys) rise rise' same =
    let e = first_same in ap (λ z. z ∷ xs) e ∙ ap (λ l. y ∷ l) (same_set xs ys rise.1 rise'.1 (λ v. (onward v, backward v)))
  where
    least : (a b : ℤ) (xs bs : List ℤ) → AllByRecursion (λ z. b <ℤ z) bs → Contains (a ∷ xs) a → ((v : ℤ) → Contains (a ∷ xs) v → Contains (b ∷ bs) v) → b ≤ℤ a
    least a b xs bs below has to = elim ((contains_cons b bs a).0 (to a has)) [
      | inl e ↦ omega (arith, ints, e)
      | inr there ↦ let lt = each_contains (λ z. b <ℤ z) bs a below there in omega (arith, ints, lt)
    ]

    first_same : x ≡ y
    first_same =
        let h = least x y xs ys rise'.0 ((contains_cons x xs x).1 (inl refl)) (λ v has. (same v).0 has) in
        let g = least y x ys xs rise.0 ((contains_cons y ys y).1 (inl refl)) (λ v has. (same v).1 has) in
        omega (arith, ints, h, g)

    onward : (v : ℤ) → Contains xs v → Contains ys v
    onward v has = elim ((contains_cons y ys v).0 ((same v).0 ((contains_cons x xs v).1 (inr has)))) [
      | inl e ↦ let lt = each_contains (λ z. x <ℤ z) xs v rise.0 has in absurd (omega (arith, ints, lt, e, first_same))
      | inr there ↦ there
    ]

    backward : (v : ℤ) → Contains ys v → Contains xs v
    backward v has = elim ((contains_cons x xs v).0 ((same v).1 ((contains_cons y ys v).1 (inr has)))) [
      | inl e ↦ let lt = each_contains (λ z. y <ℤ z) ys v rise'.0 has in absurd (omega (arith, ints, lt, e, first_same))
      | inr there ↦ there
    ]
