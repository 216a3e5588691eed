-- The list of a box's series has exactly those whose values are in the sets of their cells, in lexicographic order, so
-- that each stands there once.
use Rattle.std.specs.Prelude.{◌≡◌, ◌↔◌, ℤ, ◌<ℤ◌, List, [], ◌∷◌, ◌++◌, map, refl, Contains}
use Rattle.std.specs.List.{AllByRecursion, flat_map}
use Rattle.std.proofs.Common.{sym, ◌∙◌, ap, subst, inl, inr, ⊎_elim}
use Rattle.std.proofs.lemmas.List.Elements.{Contains-append_left, Contains-append_right, Contains-append_cases}
use Rattle.ts_domain.specs.Values.{IsRising}
use Rattle.ts_domain.specs.BoxSeries.{InBox, IsBox, IsBefore, AreRising, all_series}
use Rattle.ts_domain.proofs.Sets.{contains_cons, all_append, nothing_in}

-- lists

contains_map : {A B : Type 0} (f : A → B) (xs : List A) (y : B) → Contains (map f xs) y ↔ ((x : A) × Contains xs x × (f x ≡ y))
contains_map f [] y = (λ h. absurd (nothing_in y h), λ h. absurd (nothing_in h.0 h.1))
contains_map f (x ∷ xs) y = (
  λ h. ⊎_elim (λ e. (x, (contains_cons x xs x).1 (inl refl), e)) (λ t. let r = (contains_map f xs y).0 t in
      (r.0, (contains_cons x xs r.0).1 (inr r.1), r.2)) ((contains_cons (f x) (map f xs) y).0 h),
  λ h. (contains_cons (f x) (map f xs) y).1 (⊎_elim (λ e. inl (ap f e ∙ h.2)) (λ t. inr ((contains_map f xs y).1 (h.0, t, h.2)))
      ((contains_cons x xs h.0).0 h.1)),
)

contains_flat_map : {A B : Type 0} (f : A → List B) (xs : List A) (y : B) → Contains (flat_map f xs) y ↔ ((x : A) × Contains xs x × Contains (f x) y)
contains_flat_map f [] y = (λ h. absurd (nothing_in y h), λ h. absurd (nothing_in h.0 h.1))
contains_flat_map f (x ∷ xs) y = (
  λ h. ⊎_elim (λ e. (x, (contains_cons x xs x).1 (inl refl), e)) (λ t. let r = (contains_flat_map f xs y).0 t in
      (r.0, (contains_cons x xs r.0).1 (inr r.1), r.2)) (Contains-append_cases (f x) (flat_map f xs) y h),
  λ h. ⊎_elim
      (λ e. Contains-append_left (f x) (flat_map f xs) y (subst (λ z. Contains (f z) y) (sym e) h.2))
      (λ t. Contains-append_right (f x) (flat_map f xs) y ((contains_flat_map f xs y).1 (h.0, t, h.2)))
      ((contains_cons x xs h.0).0 h.1),
)

abbrev IsEmpty : List ℤ → Type 0
IsEmpty [] = Unit {0}
IsEmpty (v ∷ vs) = ⊥

empty_apart : (v : ℤ) (vs : List ℤ) → [] ≡ v ∷ vs → ⊥
empty_apart v vs e = subst IsEmpty e tt

first_same : (x v : ℤ) (ys vs : List ℤ) → x ∷ ys ≡ v ∷ vs → x ≡ v
first_same x v ys vs e = cc

rest_same : (x v : ℤ) (ys vs : List ℤ) → x ∷ ys ≡ v ∷ vs → ys ≡ vs
rest_same x v ys vs e = cc

-- exactly the series of the box

pub series_of_box : (cells : List (List ℤ)) (vs : List ℤ) → Contains (all_series cells) vs ↔ InBox vs cells
unfolding all_series
series_of_box [] [] = (λ h. tt, λ h. (contains_cons [] [] []).1 (inl refl))
series_of_box [] (v ∷ vs) = (λ h. ⊎_elim (λ e. empty_apart v vs e) (λ t. nothing_in (v ∷ vs) t) ((contains_cons [] [] (v ∷ vs)).0 h), λ h. absurd h)
series_of_box (d ∷ ds) [] = (
  λ h. let r = (contains_flat_map (λ v. map (λ vs. v ∷ vs) (all_series ds)) d []).0 h in
      let s = (contains_map (λ vs. r.0 ∷ vs) (all_series ds) []).0 r.2 in empty_apart r.0 s.0 (sym s.2),
  λ h. absurd h,
)
series_of_box (d ∷ ds) (v ∷ vs) = (
  λ h.
      let r = (contains_flat_map (λ x. map (λ ys. x ∷ ys) (all_series ds)) d (v ∷ vs)).0 h in
      let s = (contains_map (λ ys. r.0 ∷ ys) (all_series ds) (v ∷ vs)).0 r.2 in (
        subst (λ z. Contains d z) (first_same r.0 v s.0 vs s.2) r.1,
        (series_of_box ds vs).0
            (subst (λ z. Contains (all_series ds) z) (rest_same r.0 v s.0 vs s.2) s.1),
      ),
  λ h. (contains_flat_map (λ x. map (λ ys. x ∷ ys) (all_series ds)) d (v ∷ vs)).1
      (v, h.0, (contains_map (λ ys. v ∷ ys) (all_series ds) (v ∷ vs)).1 (vs, (series_of_box ds vs).1 h.1, refl)),
)

-- in lexicographic order

append_rising : (xs ys : List (List ℤ)) → AreRising xs → AreRising ys → AllByRecursion (λ x. AllByRecursion (λ y. IsBefore x y) ys) xs → AreRising (xs ++ ys)
append_rising [] ys h g k = g
append_rising (x ∷ xs) ys h g k = (all_append (λ y. IsBefore x y) xs ys h.0 k.0, append_rising xs ys h.1 g k.1)

behind_first : (v : ℤ) (x : List ℤ) (xs : List (List ℤ)) → AllByRecursion (λ y. IsBefore x y) xs →
    AllByRecursion (λ y. IsBefore (v ∷ x) y) (map (λ ys. v ∷ ys) xs)
behind_first v x [] h = tt
behind_first v x (y ∷ xs) h = (inr (refl, h.0), behind_first v x xs h.1)

begun_rising : (v : ℤ) (xs : List (List ℤ)) → AreRising xs → AreRising (map (λ ys. v ∷ ys) xs)
begun_rising v [] h = tt
begun_rising v (x ∷ xs) h = (behind_first v x xs h.0, begun_rising v xs h.1)

-- a series that begins lower is before all that begin with w
below_all : (v w : ℤ) (vs : List ℤ) (xs : List (List ℤ)) → v <ℤ w → AllByRecursion (λ y. IsBefore (v ∷ vs) y) (map (λ ys. w ∷ ys) xs)
below_all v w vs [] q = tt
below_all v w vs (x ∷ xs) q = (inl q, below_all v w vs xs q)

below_each : (v : ℤ) (vs : List ℤ) (d : List ℤ) (rest : List (List ℤ)) → AllByRecursion (λ w. v <ℤ w) d →
    AllByRecursion (λ y. IsBefore (v ∷ vs) y) (flat_map (λ w. map (λ ys. w ∷ ys) rest) d)
below_each v vs [] rest h = tt
below_each v vs (w ∷ d) rest h = all_append (λ y. IsBefore (v ∷ vs) y) (map (λ ys. w ∷ ys) rest) (flat_map (λ w. map (λ ys. w ∷ ys) rest) d)
    (below_all v w vs rest h.0) (below_each v vs d rest h.1)

all_below : (v : ℤ) (xs : List (List ℤ)) (d : List ℤ) (rest : List (List ℤ)) → AllByRecursion (λ w. v <ℤ w) d →
    AllByRecursion (λ x. AllByRecursion (λ y. IsBefore x y) (flat_map (λ w. map (λ ys. w ∷ ys) rest) d)) (map (λ ys. v ∷ ys) xs)
all_below v [] d rest h = tt
all_below v (x ∷ xs) d rest h = (below_each v x d rest h, all_below v xs d rest h)

each_begun : (d : List ℤ) (rest : List (List ℤ)) → IsRising d → AreRising rest → AreRising (flat_map (λ v. map (λ vs. v ∷ vs) rest) d)
unfolding IsRising
each_begun [] rest h g = tt
each_begun (v ∷ d) rest h g =
    append_rising (map (λ vs. v ∷ vs) rest) (flat_map (λ v. map (λ vs. v ∷ vs) rest) d) (begun_rising v rest g) (each_begun d rest h.1 g)
    (all_below v rest d rest h.0)

pub series_rising : (cells : List (List ℤ)) → IsBox cells → AreRising (all_series cells)
unfolding all_series
series_rising [] h = (tt, tt)
series_rising (d ∷ ds) h = each_begun d (all_series ds) h.0.rising (series_rising ds h.1)
