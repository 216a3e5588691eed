-- Places of a cell that a pair of states settles: its span reaches what is asked, whatever value is at the place.
use Rattle.std.specs.Prelude.{◌≡◌, ◌<◌, ◌≤◌, ℕ, ℤ, List, [], length, get_or}
use Rattle.ts_base.specs.declared.span.Span.{Span}
use Rattle.ts_automaton.specs.Registers.{spans_of}
use Rattle.ts_automaton.specs.AutomatonRun.{Standing}
use Rattle.ts_glue.specs.Pairs.{Pair}
use Rattle.ts_row.specs.Rows.{lanes_of, nothing}
use Rattle.ts_sweep.specs.declared.packed.Ends.{Ends}
use Rattle.ts_sweep.specs.declared.packed.PackedHull.{PackedHull}
use Rattle.ts_sweep.specs.Packed.{IsPacked, unpacked}
use Rattle.ts_sweep.specs.Sides.{Sides, lane_count, sides}
use Rattle.ts_meet.specs.Asked.{Reaches}
use Rattle.ts_meet.specs.Meets.{glued_seen, standing}

-- something holds at each place from a on, before b
abbrev pub Between : (a b : ℕ) → (ℕ → Type 0) → Type 0
Between a b Is = (i : ℕ) → a ≤ i → i < b → Is i

-- there is a packed hull at each place before `to`
abbrev pub ArePlaces : (n to : ℕ) → List (PackedHull n) → Type 0
ArePlaces n to hulls =
    (to ≤ length hulls)
    × ((i : ℕ) → i < to → IsPacked (lane_count n) (lanes_of n (get_or hulls i (nothing n))))

-- in the column of each of `states` states there is a packed hull at each place before `to`
pub record HavePlaces (n states to : ℕ) (row : List (List (PackedHull n))) : Type 0 where
  pub len : length row ≡ states
  pub places : (q : ℕ) → q < states → ArePlaces n to (get_or row q [])

-- the state q with a hull, and with that at place i of a column
abbrev pub with_hull : (n q : ℕ) → PackedHull n → Standing Span
with_hull n q h = standing q (spans_of (unpacked (lanes_of n h)))

abbrev pub with_hull_at : (n q : ℕ) → List (PackedHull n) → ℕ → Standing Span
with_hull_at n q hulls i = with_hull n q (get_or hulls i (nothing n))

-- what is seen of the span of two states that meet reaches these ends, whatever the value
abbrev pub AlwaysReaches : Sides → Ends → Pair → (left right : Standing Span) → ℕ → Type 0
AlwaysReaches s given p left right cells = (x : ℤ) → Reaches given (glued_seen s p left right x cells)

-- the span of the states q and r at place i of two columns always reaches these ends
abbrev pub IsSettledBy :
    (n : ℕ) → Ends → Pair → (q r : ℕ) → (left right : List (PackedHull n)) → (cells i : ℕ) → Type 0
IsSettledBy n given p q r left right cells i =
    AlwaysReaches (sides n) given p (with_hull_at n q left i) (with_hull_at n r right i) cells

-- the span of q with some state on the right always reaches the ends; that of some state on the left with one on the
-- right
abbrev pub IsSettledBySome :
    (n : ℕ) → Ends → Pair → ℕ → List (PackedHull n) → List (List (PackedHull n)) → (cells i : ℕ) → Type 0
IsSettledBySome n given p q left right cells i =
    (r : ℕ) × (r < length p.reverse.states) × IsSettledBy n given p q r left (get_or right r []) cells i

abbrev pub IsSettled : (n : ℕ) → Ends → Pair → (left right : List (List (PackedHull n))) → (cells i : ℕ) → Type 0
IsSettled n given p left right cells i =
    (q : ℕ) × (q < length p.forward.states) × IsSettledBySome n given p q (get_or left q []) right cells i
