-- Which hulls are fit for all parts of a move.
use Rattle.std.proofs.Common.{◌≡◌, ◌⊎◌, inl, inr, ℕ, ◌≤◌, true, ℤ, Option, None, Some, List}
use Rattle.ts_sweep.specs.declared.packed.Name.{Name}
use Rattle.ts_sweep.specs.Lanes.{no_lanes, some_lanes}
use Rattle.ts_sweep.specs.MoveLaws.{first_is}
use Rattle.ts_sweep.specs.Moves.{IfPlaced, IsFitFor}
use Rattle.ts_sweep.specs.Packed.{place, AreSome, IsPacked}
use Rattle.ts_sweep.specs.Sides.{Sides, as_read}

placed_if : (o : Option ℕ) (P : Type 0) → P → IfPlaced o P
placed_if None P p = tt
placed_if (Some q) P p = p

pub parts_fit : (s : Sides) (n : ℕ) (fit : Name → List ℤ → Type 0) (xs : List ℤ) → 6 ≤ n → IsPacked n xs →
    (some_lanes xs ≡ true → (k : Name) → fit k (as_read s xs)) → IsFitFor s n fit xs
parts_fit s n fit xs big (inl e) fits = inl e
parts_fit s n fit xs big (inr p) fits = inr (big, p, λ k. placed_if (place n k) (fit k (as_read s xs)) (fits (first_is n xs big p) k))

-- lanes that are fit are packed
pub packed_if_fit : (n : ℕ) (xs : List ℤ) {A B : Type 0} → (xs ≡ no_lanes n) ⊎ (A × AreSome n xs × B) → IsPacked n xs
packed_if_fit n xs (inl e) = inl e
packed_if_fit n xs (inr p) = inr p.1
