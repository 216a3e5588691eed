-- A list cut at the first element that passes a test.
use Rattle.std.proofs.Common.{◌≡◌, ℕ, suc, ◌+◌, ◌<◌, ◌≤◌, Bool, true, false, not, cond, Some, None, List, [], ◌∷◌, length, take, drop, get_or, refl, ap, arith, nat_lt}
use Rattle.std.specs.Prelude.{unwrap_or}
use Rattle.std.proofs.lemmas.List.Sums.{prefix_len-le-length}
use Rattle.std.proofs.lemmas.Bool.{ltb-false}
use Rattle.std.specs.List.{position_or_len, position}

pub one_plus : (n : ℕ) → 1 + n ≡ suc n
one_plus n = omega arith

module _ (p : ℕ → Bool) where
  -- the elements before the first that passes, and those from it on
  abbrev pub front : List ℕ → List ℕ
  front [] = []
  front (b ∷ bs) = cond (p b) [] (b ∷ front bs)

  abbrev pub ending : List ℕ → List ℕ
  ending [] = []
  ending (b ∷ bs) = cond (p b) (b ∷ bs) (ending bs)

  pub take_front : (xs : List ℕ) → take (position_or_len p xs) xs ≡ front xs
  take_front [] = refl
  take_front (b ∷ bs) =
      elim (p b) as (λ v. take (cond (not v) (1 + position_or_len p bs) 0) (b ∷ bs) ≡ cond v [] (b ∷ front bs)) [
        | true ↦ refl
        | false ↦ rw (one_plus (position_or_len p bs)) (ap (λ (x : List ℕ). b ∷ x) (take_front bs))
      ]

  pub drop_front : (xs : List ℕ) → drop (position_or_len p xs) xs ≡ ending xs
  drop_front [] = refl
  drop_front (b ∷ bs) =
      elim (p b) as (λ v. drop (cond (not v) (1 + position_or_len p bs) 0) (b ∷ bs) ≡ cond v (b ∷ bs) (ending bs)) [
        | true ↦ refl
        | false ↦ rw (one_plus (position_or_len p bs)) (drop_front bs)
      ]

  pub position_or_len-le : (xs : List ℕ) → position_or_len p xs ≤ length xs
  position_or_len-le xs = prefix_len-le-length (λ x. not (p x)) xs

  -- where the first stands, or the length
  pub place_is : (xs : List ℕ) → unwrap_or (position p xs) (length xs) ≡ position_or_len p xs
  place_is xs = go (nat_lt (position_or_len p xs) (length xs)) refl where
    go : (t : Bool) → nat_lt (position_or_len p xs) (length xs) ≡ t → unwrap_or (cond t (Some (position_or_len p xs)) None) (length xs) ≡ position_or_len p xs
    go true e = refl
    go false e = omega (arith, position_or_len-le xs, ltb-false _ _ e)

  passes_step : (b : ℕ) (bs : List ℕ) (t : Bool) → p b ≡ t → (0 < length (ending bs) → p (get_or (ending bs) 0 0) ≡ true) →
      0 < length (cond t (b ∷ bs) (ending bs)) → p (get_or (cond t (b ∷ bs) (ending bs)) 0 0) ≡ true
  passes_step b bs true e later h = e
  passes_step b bs false e later h = later h

  -- the element where the list was cut passes
  pub passes : (xs : List ℕ) → 0 < length (ending xs) → p (get_or (ending xs) 0 0) ≡ true
  passes [] h = absurd (omega arith)
  passes (b ∷ bs) h = passes_step b bs (p b) refl (passes bs) h
