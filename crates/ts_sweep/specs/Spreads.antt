-- Moves that join R with the difference of both cells.
use Rattle.std.specs.Prelude.{◌≡◌, ◌≤◌, ◌≤ℤ◌, ◌+ℤ◌, ◌-ℤ◌, ℕ, ℤ, pos, Bool, true, false, cond, List, get_or}
use Rattle.std.specs.Int.{int_max, int_min}
use Rattle.ts_base.specs.declared.letter.Letter.{Letter}
use Rattle.ts_base.specs.declared.op.Op.TheVariants.{Max, Min}
use Rattle.ts_hull.specs.Sweeps.{compares}
use Rattle.ts_sweep.specs.declared.packed.Ends.{Ends}
use Rattle.ts_sweep.specs.declared.packed.Name.{Name}
use Rattle.ts_sweep.specs.declared.packed.Name.TheVariants.{C, E, R}
use Rattle.ts_sweep.specs.Lanes.{least, some_lanes}
use Rattle.ts_sweep.specs.Moves.{ends_by, replaced_all}
use Rattle.ts_sweep.specs.Packed.{ends, name_ends}
use Rattle.ts_sweep.specs.PairMoves.{start_ends}
use Rattle.ts_sweep.specs.Sides.{Sides, as_read}
use Rattle.ts_sweep.specs.Sweeps.{total}

-- an end of a register
abbrev pub end_of : Bool → Ends → ℤ
end_of true e = e.above
end_of false e = e.below

-- an end of the difference of two cells, the lower one negated
abbrev pub apart : Bool → ℤ → ℤ → ℤ
apart true v w = int_max v w -ℤ int_min v w
apart false v w = int_min v w -ℤ int_max v w

-- an end of the difference of two cells, or that of R if it is less and asked for; nothing of a hull in which no
-- registers lie
abbrev pub lesser : Bool → Bool → Bool → Ends → ℤ → ℤ → ℤ
lesser above bounded some r v w =
    cond some (cond bounded (int_min (end_of above r) (apart above v w)) (apart above v w)) least

-- the greatest of the ends that `lesser` gives, over those of n hulls whose value compares
abbrev pub top : Bool → Bool → Letter → Bool → ℕ → (ℕ → Bool) → (ℕ → Ends) → (ℕ → ℤ) → ℤ → ℤ
top above bounded l twin n some r v w =
    total int_max least (λ i. compares l twin (v i) w) (λ i. lesser above bounded (some i) (r i) (v i) w) n

-- the ends of R from those of the joined hulls: one joins both, the other one is that of the best pair
abbrev pub spread_ends : Bool → (Bool → Bool → ℤ) → Ends → Ends
spread_ends true t r = ends (int_min (t false true) r.below) (int_max r.above (t true false))
spread_ends false t r = ends (int_max r.below (t false false)) (int_min (t true true) r.above)

-- what a hull gives, if R is asked for the lesser of its end and of the difference
abbrev pub lesser_of : {X : Type 0} → (X → List ℤ) → Sides → Bool → Bool → X → ℤ → ℤ → ℤ
lesser_of lanes s above bounded h v w =
    lesser above bounded (some_lanes (lanes h)) (name_ends (as_read s (lanes h)) R) v w

-- the greatest that n hulls give
abbrev pub top_of : {X : Type 0} → (X → List ℤ) → Sides → X → List X → Letter → Bool → ℕ → (ℕ → ℤ) → ℤ → Bool → Bool → ℤ
top_of lanes s none hulls l twin n v w above bounded =
    top above bounded l twin n (λ i. some_lanes (lanes (get_or hulls i none)))
    (λ i. name_ends (as_read s (lanes (get_or hulls i none))) R) v w

-- what becomes of joined hulls: D and F begin anew
abbrev pub spread_hull : {X : Type 0} → (X → List ℤ) → Sides → (X → Name → Ends → X) → Bool → (Bool → Bool → ℤ) → X → X
spread_hull lanes s replaced greatest tops h =
    replaced_all replaced h (ends_by true (name_ends (as_read s (lanes h)) C) (name_ends (as_read s (lanes h)) E)
    (start_ends Max) (start_ends Min) (spread_ends greatest tops (name_ends (as_read s (lanes h)) R)))

-- how far w lies beyond the first of n values from a on, or below their end
abbrev pub beyond : Bool → ℤ → ℕ → ℤ → ℤ
beyond true a n w = w -ℤ a
beyond false a n w = (a +ℤ pos n) -ℤ w

-- the differences fall in the order of places, or in the other one
abbrev pub Falls : Bool → Bool → Letter → Bool → ℤ → Type 0
Falls above true l twin w =
    (v u : ℤ) → v ≤ℤ u → compares l twin v w ≡ true → compares l twin u w ≡ true → apart above u w ≤ℤ apart above v w
Falls above false l twin w =
    (v u : ℤ) → u ≤ℤ v → compares l twin v w ≡ true → compares l twin u w ≡ true → apart above u w ≤ℤ apart above v w
