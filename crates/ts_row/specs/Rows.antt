-- A row of packed hulls: for each state a column, with a hull for each value of the cell.
use Rattle.std.specs.Prelude.{◌≡◌, ℕ, ◌+◌, ◌*◌, ◌<◌, Bool, false, cond, nat_eq, ℤ, List, [], length, map, flat_map, get_or, slice_range}
use Rattle.std.specs.List.{range_with_len}
use Rattle.ts_base.specs.declared.letter.Letter.{Letter}
use Rattle.ts_base.specs.declared.letter.Letter.TheVariants.{Less, Equal, Greater}
use Rattle.ts_automaton.specs.declared.regs.Hull.{Hull}
use Rattle.ts_automaton.specs.Body.{Body, Move}
use Rattle.ts_automaton.specs.SpanRun.{one_hull}
use Rattle.ts_hull.specs.Hulls.{hull_of, none, hull_of_both}
use Rattle.ts_hull.specs.Sealed.{move_at}
use Rattle.ts_hull.specs.Sweeps.{total}
use Rattle.ts_sweep.specs.declared.packed.PackedHull.{PackedHull}
use Rattle.ts_sweep.specs.Columns.{gives}
use Rattle.ts_sweep.specs.Lanes.{no_lanes}
use Rattle.ts_sweep.specs.Packed.{unpacked, ArePacked, IsPacked}
use Rattle.ts_sweep.specs.Sides.{lane_count, lanes_in, seen_hull, sides}

-- a hull of nothing
abbrev pub nothing : (n : ℕ) → PackedHull n
nothing n = record { at = no_lanes n }

-- the lanes of a hull, with both ends
abbrev pub lanes_of : (n : ℕ) → PackedHull n → List ℤ
lanes_of n h = lanes_in n h.at

-- a packed hull that stands for what is seen of h
abbrev pub IsHull : (n : ℕ) → Hull → PackedHull n → Type 0
IsHull n h packed = IsPacked (lane_count n) (lanes_of n packed) × (unpacked (lanes_of n packed) ≡ seen_hull (sides n) h)

-- `count` copies of one hull
abbrev pub AreAll : (n : ℕ) → PackedHull n → (count : ℕ) → List (PackedHull n) → Type 0
AreAll n hull count hulls = (length hulls ≡ count) × ((i : ℕ) → i < count → get_or hulls i (nothing n) ≡ hull)

-- `count` packed hulls
abbrev pub IsColumn : (n count : ℕ) → List (PackedHull n) → Type 0
IsColumn n count hulls = ArePacked (lanes_of n) (nothing n) (lane_count n) count hulls

-- a column of `count` packed hulls for each state
pub record IsRow (n states count : ℕ) (row : List (List (PackedHull n))) : Type 0 where
  pub len : length row ≡ states
  pub columns : (q : ℕ) → q < states → IsColumn n count (get_or row q [])

-- the columns that lie one after another in a list: the first `count` of each `stride` places
abbrev pub columns_in : {X : Type 0} → (states stride count : ℕ) → List X → List (List X)
columns_in states stride count xs =
    map (λ q. slice_range xs (q * stride) (q * stride + count)) (range_with_len 0 states)

-- a row of hulls of nothing, `count` for each state
pub record IsCleared (n states count : ℕ) (row : List (List (PackedHull n))) : Type 0 where
  pub len : length row ≡ states
  pub columns : (q : ℕ) → q < states → AreAll n (nothing n) count (get_or row q [])

-- the columns at the places from `from` up to `to`
abbrev pub columns_part : {X : Type 0} → (from to : ℕ) → List (List X) → List (List X)
columns_part from to columns = map (λ column. slice_range column from to) columns

-- the hull of state q at place i
abbrev pub hull_in : (n : ℕ) → List (List (PackedHull n)) → ℕ → ℕ → Hull
hull_in n row q i = unpacked (lanes_of n (get_or (get_or row q []) i (nothing n)))

-- all hulls of a row in a list: value by value, one of each state
unfoldable pub flat_row : (n states count : ℕ) → List (List (PackedHull n)) → List Hull
flat_row n states count row =
    flat_map (λ i. map (λ q. hull_in n row q i) (range_with_len 0 states)) (range_with_len 0 count)

-- where runs start: the start registers in the start state alone
unfoldable pub start_hull : Body → ℕ → Hull
start_hull b q = cond (nat_eq q 0) (hull_of (one_hull b.start)) none

-- what a move on a letter gives to state t of the next value w, from the hulls h of n values v
abbrev pub gives_to : Move → Letter → Bool → ℕ → (ℕ → ℤ) → (ℕ → Hull) → ℤ → ℕ → Hull
gives_to m l twin n v h w t = cond (nat_eq m.next t) (gives m l twin n v h w) none

-- what the moves of state q give
unfoldable pub state_gives : Body → ℕ → ℕ → (ℕ → ℤ) → (ℕ → Hull) → ℤ → ℕ → Hull
state_gives b q n v h w t =
    hull_of_both
    (hull_of_both (gives_to (move_at b q Less) Less false n v h w t)
    (gives_to (move_at b q Equal) Equal false n v h w t))
    (gives_to (move_at b q Greater) Greater false n v h w t)

-- what is seen of what the moves of state q give
abbrev pub seen_gives : (n : ℕ) → Body → ℕ → ℕ → (ℕ → ℤ) → (ℕ → Hull) → ℤ → ℕ → Hull
seen_gives n b q k v h w t = seen_hull (sides n) (state_gives b q k v h w t)

-- the hull of state t of the next value w: of what all states give
abbrev pub next_hull : Body → ℕ → (ℕ → ℤ) → (ℕ → ℕ → Hull) → ℤ → ℕ → Hull
next_hull b n v h w t = total (length b.states) (λ q. state_gives b q n v (h q) w t)

-- the k hulls of each state of a row have taken in what f gives to its value w j
abbrev pub HasTaken : (n states k : ℕ) → (ℕ → ℤ) → (ℤ → ℕ → Hull) → (old new : List (List (PackedHull n))) → Type 0
HasTaken n states k w f old new =
    (t j : ℕ) → t < states → j < k → hull_in n new t j ≡ hull_of_both (hull_in n old t j) (f (w j) t)
