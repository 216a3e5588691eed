-- Numbers within the limits of a cell.
use Rattle.std.proofs.Common.{◌≡◌, ℤ, pos, neg_ℤ, true, false, Bool, ◌&&◌, List, [], ◌∷◌, refl}
use Rattle.std.specs.Prelude.{int_le}
use Rattle.std.specs.List.{list_all}
use Rattle.ts_base.specs.Limits.{IsCellValue}
use Rattle.ts_domain.proofs.Sets.{true_le}
use Rattle.ts_automaton.specs.AutomatonRun.{AreCellValues}

both : (a b : Bool) → (a && b) ≡ true → (a ≡ true) × (b ≡ true)
both true true h = (refl, refl)
both true false h = cc
both false b h = cc

one : (v : ℤ) → (int_le (neg_ℤ (pos 1000000)) v && int_le v (pos 1000000)) ≡ true → IsCellValue v
one v h = let p = both _ _ h in (true_le (neg_ℤ (pos 1000000)) v p.0, true_le v (pos 1000000) p.1)

pub cells_of : (xs : List ℤ) → list_all (λ v. int_le (neg_ℤ (pos 1000000)) v && int_le v (pos 1000000)) xs ≡ true → AreCellValues xs
cells_of [] h = tt
cells_of (x ∷ xs) h = let p = both _ _ h in (one x p.0, cells_of xs p.1)
