-- A move of a state that is taken in.
use Rattle.std.specs.Prelude.{◌≡◌, ℕ, ◌+◌, ◌<◌, true, ℤ, pos, List, ◌++◌, length, get_or, take, drop, slice_range}
use Rattle.ts_automaton.specs.declared.regs.Hull.{Hull}
use Rattle.ts_automaton.specs.Body.{Move}
use Rattle.ts_hull.specs.Hulls.{hull_of_both}
use Rattle.ts_hull.specs.Cuts.{Cut, cut_of}
use Rattle.ts_row.specs.declared.between.Between.{Between}
use Rattle.ts_row.specs.declared.between.On.{On}
use Rattle.ts_row.specs.declared.cell.Cell.{Cell}
use Rattle.ts_row.specs.declared.plan.Shape.{Shape}
use Rattle.ts_row.specs.Plans.{IsShapeOf}
use Rattle.ts_row.specs.Rows.{gives_to, lanes_of, nothing, IsColumn}
use Rattle.ts_sweep.specs.declared.packed.PackedHull.{PackedHull}
use Rattle.ts_sweep.specs.Columns.{IsMoved, IsTurned, hull_at}
use Rattle.ts_sweep.specs.Covers.{IsCoverOf}
use Rattle.ts_sweep.specs.declared.pair_move.Emission.{Emission}
use Rattle.ts_sweep.specs.Lanes.{some_lanes}
use Rattle.ts_sweep.specs.Moves.{of_width}
use Rattle.ts_sweep.specs.PairMoves.{IsEmitted}
use Rattle.ts_sweep.specs.Sides.{as_read, has_wide, seen_hull, sides}

-- how many values a cell has, and the value at a place
abbrev pub count_in : Cell → ℕ
count_in c = length c.values.now

abbrev pub value_in : Cell → ℕ → ℤ
value_in c i = get_or c.values.now i (pos 0)

-- there is a packed hull for each value before, and each is bounded by the cover
pub record IsCovered (n : ℕ) (t : Between n) : Type 0 where
  pub packed : IsColumn n (count_in t.values.now) t.before.now
  pub cover : IsCoverOf (sides n) (lanes_of n) (nothing n) t.cover.now (count_in t.values.now) t.before.now

-- a column of the next cell has taken in a move, or any move with these split expressions, or of this shape
abbrev pub HasMoved : (n : ℕ) → Between n → On → Move → List (PackedHull n) → List (PackedHull n) → Type 0
HasMoved n t on m old new =
    IsMoved (sides n) (lanes_of n) (nothing n) m on.letter on.twin (count_in t.values.now) (value_in t.values.now)
    t.before.now (count_in t.next_values.now) (value_in t.next_values.now) old new

abbrev pub MovesBy : (n : ℕ) → Between n → On → Cut → List (PackedHull n) → List (PackedHull n) → Type 0
MovesBy n t on k old new = (m : Move) → cut_of m ≡ k → HasMoved n t on m old new

-- a column has taken in any move with these split expressions, as far as registers have lanes
abbrev pub MovesAs : (n : ℕ) → Between n → On → Cut → List (PackedHull n) → List (PackedHull n) → Type 0
MovesAs n t on k old new = MovesBy n t on (of_width (has_wide n) k) old new

-- a column has taken in any move with these split expressions, where the next cell is negated
abbrev pub TurnsAs : (n : ℕ) → Between n → On → Cut → List (PackedHull n) → List (PackedHull n) → Type 0
TurnsAs n t on k old new =
    (m : Move) → cut_of m ≡ of_width (has_wide n) k →
    IsTurned (sides n) (lanes_of n) (nothing n) m on.letter on.twin (count_in t.values.now) (value_in t.values.now)
    t.before.now (count_in t.next_values.now) (value_in t.next_values.now) old new

abbrev pub IsShapeTaken : (n : ℕ) → Between n → On → Shape → List (PackedHull n) → List (PackedHull n) → Type 0
IsShapeTaken n t on s old new = (m : Move) → IsShapeOf (has_wide n) s (cut_of m) → HasMoved n t on m old new

-- at a place of a list, as many hulls as the next cell has values have taken in a move
pub record HasTakenAt (n : ℕ) (t : Between n) (on : On) (m : Move) (at : ℕ) (old new : List (PackedHull n))
    : Type 0 where
  pub column : List (PackedHull n)
  pub packed : IsColumn n (count_in t.next_values.now) column
  pub moved : HasMoved n t on m (slice_range old at (at + count_in t.next_values.now)) column
  pub written : new ≡ take at old ++ (column ++ drop (count_in t.next_values.now) (drop at old))

-- what is seen of what a move gives to state u of the next value w
abbrev pub taken_to : (n : ℕ) → Between n → On → Move → ℤ → ℕ → Hull
taken_to n t on m w u =
    seen_hull (sides n) (gives_to m on.letter on.twin (count_in t.values.now) (value_in t.values.now)
    (hull_at (lanes_of n) (nothing n) t.before.now) w u)

-- what is seen of what two moves give to state u of the next value w
abbrev pub two_taken_to : (n : ℕ) → Between n → On → Move → On → Move → ℤ → ℕ → Hull
two_taken_to n t on m on' m' w u = hull_of_both (taken_to n t on m w u) (taken_to n t on' m' w u)

-- an emission serves each hull, of the first `count` of a column, in which registers lie
abbrev pub AreEmitted : (n : ℕ) → Emission → ℕ → List (PackedHull n) → Type 0
AreEmitted n by count hulls =
    (i : ℕ) → i < count → some_lanes (lanes_of n (get_or hulls i (nothing n))) ≡ true →
    IsEmitted (sides n) (has_wide n) by (as_read (sides n) (lanes_of n (get_or hulls i (nothing n))))
