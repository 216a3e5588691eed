-- A row without large numbers can be packed in ten lanes.
use Rattle.std.proofs.Common.{◌≡◌, ℕ, zero, suc, true, List, [], ◌∷◌, get_or, refl}
use Rattle.std.specs.List.{list_all}
use Rattle.std.proofs.lemmas.Bool.{and_parts}
use Rattle.ts_automaton.specs.declared.regs.Hull.{Hull}
use Rattle.ts_hull.specs.Hulls.{none}
use Rattle.ts_hull.specs.Smalls.{small_hull}
use Rattle.ts_sweep.specs.Strided.{IsPackable}

none_small : small_hull none ≡ true
unfolding small_hull
none_small = refl

small_at : (row : List Hull) → list_all small_hull row ≡ true → (p : ℕ) → small_hull (get_or row p none) ≡ true
small_at [] h p = none_small
small_at (x ∷ row) h zero = (and_parts (small_hull x) (list_all small_hull row) h).0
small_at (x ∷ row) h (suc p) = small_at row (and_parts (small_hull x) (list_all small_hull row) h).1 p

pub row_packable : (row : List Hull) → list_all small_hull row ≡ true → (p : ℕ) → IsPackable 10 (get_or row p none)
row_packable row h p = record { small = small_at row h p; rests = λ narrow some. cc }
