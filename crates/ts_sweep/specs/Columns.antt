-- What a move makes of the hulls of a state, which stand in a column.
use Rattle.std.specs.Prelude.{◌≡◌, ℕ, ◌<◌, Bool, cond, ℤ, neg_ℤ, List, get_or, set}
use Rattle.ts_base.specs.declared.letter.Letter.{Letter}
use Rattle.ts_automaton.specs.declared.regs.Hull.{Hull}
use Rattle.ts_automaton.specs.Body.{Move}
use Rattle.ts_hull.specs.Hulls.{none, hull_of_both}
use Rattle.ts_hull.specs.Sealed.{after_move}
use Rattle.ts_hull.specs.Sweeps.{compares, total}
use Rattle.ts_sweep.specs.Packed.{unpacked, IsPacked}
use Rattle.ts_sweep.specs.Sides.{Sides, seen_hull}

-- what a move gives to a next value w from n values v with hulls h: the hull of what it makes of those whose value
-- compares with w as the letter says, or is equal to it where there is a twin
unfoldable pub gives : Move → Letter → Bool → ℕ → (ℕ → ℤ) → (ℕ → Hull) → ℤ → Hull
gives m l twin n v h w = total n (λ i. cond (compares l twin (v i) w) (after_move m (h i) (v i) w) none)

-- the hull at a place of a column
abbrev pub hull_at : {X : Type 0} → (X → List ℤ) → X → List X → ℕ → Hull
hull_at lanes nothing hulls i = unpacked (lanes (get_or hulls i nothing))

-- each of the k hulls of the next column has taken in what is seen of what the move gives to its value w j from the n
-- hulls before
abbrev pub IsMoved : {X : Type 0} → Sides → (X → List ℤ) → X → Move → Letter → Bool → ℕ → (ℕ → ℤ) → List X → ℕ →
    (ℕ → ℤ) → List X → List X → Type 0
IsMoved s lanes nothing m l twin n v before k w old new =
    (j : ℕ) → j < k → hull_at lanes nothing new j
    ≡ hull_of_both (hull_at lanes nothing old j)
    (seen_hull s (gives m l twin n v (hull_at lanes nothing before) (w j)))

-- what a move gives with the next value negated, and each hull of the next column has taken that in
unfoldable pub gives_turned : Move → Letter → Bool → ℕ → (ℕ → ℤ) → (ℕ → Hull) → ℤ → Hull
gives_turned m l twin n v h w =
    total n (λ i. cond (compares l twin (v i) w) (after_move m (h i) (v i) (neg_ℤ w)) none)

abbrev pub IsTurned : {X : Type 0} → Sides → (X → List ℤ) → X → Move → Letter → Bool → ℕ → (ℕ → ℤ) → List X → ℕ →
    (ℕ → ℤ) → List X → List X → Type 0
IsTurned s lanes nothing m l twin n v before k w old new =
    (j : ℕ) → j < k → hull_at lanes nothing new j
    ≡ hull_of_both (hull_at lanes nothing old j)
    (seen_hull s (gives_turned m l twin n v (hull_at lanes nothing before) (w j)))

-- the hull at a place of a column is joined with one that stands for h
pub record IsGift {X : Type 0} (both : X → X → X) (lanes : X → List ℤ) (nothing : X) (n : ℕ) (h : Hull) (j : ℕ)
    (old new : List X) : Type 0 where
  pub gift : X
  pub packed : IsPacked n (lanes gift)
  pub value : unpacked (lanes gift) ≡ h
  pub joined : new ≡ set old j (both (get_or old j nothing) gift)
