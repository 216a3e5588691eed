-- How far out the ends of the registers of many hulls lie.
use Rattle.std.specs.Prelude.{◌≡◌, ◌<◌, ◌+◌, ◌<ℤ◌, ◌≤ℤ◌, ℕ, ℤ, pos, negsuc, Bool, true, false, List, get_or}
use Rattle.ts_base.specs.declared.op.Op.{Op}
use Rattle.ts_base.specs.declared.op.Op.TheVariants.{Add, Max, Min}
use Rattle.ts_automaton.specs.Registers.{EachOf, each}
use Rattle.ts_row.specs.Rows.{lanes_of, nothing}
use Rattle.ts_sweep.specs.declared.packed.Ends.{Ends}
use Rattle.ts_sweep.specs.declared.packed.PackedHull.{PackedHull}
use Rattle.ts_sweep.specs.Fronts.{ArePlain}
use Rattle.ts_sweep.specs.Lanes.{some_lanes}
use Rattle.ts_sweep.specs.Packed.{ends, max_ends}
use Rattle.ts_sweep.specs.Sides.{sides}
use Rattle.ts_meet.specs.declared.gluing.Gluing.{Gluing}
use Rattle.ts_meet.specs.declared.column.Watched.{Watched}
use Rattle.ts_meet.specs.Joints.{IsHeldPlain, IsPlain, is_add}
use Rattle.ts_meet.specs.Sides.{IsNeutral, ends_in, side_of}

-- what stands for a column that isn't there
abbrev pub zeros : Ends
zeros = ends (pos 0) (pos 0)

abbrev pub unwatched : Watched
unwatched = record { peaks = record { c = zeros; e = zeros; d = zeros; f = zeros; r = zeros } }

-- the greater of each end of each register
abbrev pub higher : EachOf Ends → EachOf Ends → EachOf Ends
higher a b = each (max_ends a.c b.c) (max_ends a.e b.e) (max_ends a.d b.d) (max_ends a.f b.f) (max_ends a.r b.r)

-- a number is at most a peak, if that isn't the greatest number, of which nothing is known
abbrev pub IsAtMost : ℤ → ℤ → Type 0
IsAtMost x peak = peak <ℤ pos 9223372036854775807 → x ≤ℤ peak

-- each end is at most that of others
abbrev pub AreBelow : Ends → Ends → Type 0
AreBelow e peak = IsAtMost e.below peak.below × IsAtMost e.above peak.above

-- no end lies nearer than the infinity that an operator passes over
abbrev pub IsUnheld : Op → Ends → Type 0
IsUnheld Add peak = ⊥
IsUnheld Max peak = peak.above ≤ℤ negsuc 9223372036854775806
IsUnheld Min peak = peak.below ≤ℤ negsuc 9223372036854775806

abbrev pub IsUnheldWith : Ends → Ends → Type 0
IsUnheldWith peak c = (o : Op) → IsUnheld o peak → IsNeutral o c

-- each end of registers is at most the peak; where no C lies nearer than an infinity, it is that infinity
abbrev pub IsUnder : EachOf Ends → EachOf Ends → Type 0
IsUnder k a =
    AreBelow a.c k.c × AreBelow a.e k.e × AreBelow a.d k.d × AreBelow a.f k.f × AreBelow a.r k.r
    × IsUnheldWith k.c a.c

-- what is known of a column holds of registers
abbrev pub IsKnown : Watched → EachOf Ends → Type 0
IsKnown k a = IsUnder (ends_in k.peaks) a

-- where C is held it is small, if something is taken away from it as in wide automata; where it isn't, it is the
-- infinity that the operator on results passes over
abbrev pub IsHeldBy : Bool → Op → Bool → Ends → Type 0
IsHeldBy wide o true c = wide ≡ true → ArePlain c
IsHeldBy wide o false c = IsNeutral o c

-- so it is held, and all numbers that are added or taken away in the answer of a run are small
abbrev pub IsAnswerHeld : Bool → Op → Bool → EachOf Ends → Type 0
IsAnswerHeld wide o held a =
    (is_add o ≡ true → ArePlain a.r) × IsHeldPlain wide (is_add o) a × IsHeldBy wide o held a.c

-- so it is on both sides, between which all numbers that are added or taken away are small
abbrev pub ArePlainHeld : (here there : Bool) → Gluing → EachOf Ends → EachOf Ends → Type 0
ArePlainHeld here there g a b =
    IsPlain g a b × IsHeldBy g.wide g.result here a.c × IsHeldBy g.wide g.result there b.c

-- something holds of the registers of a hull, if they lie in it; and of those of the hulls at `count` places from
-- `from` on
abbrev pub HoldsInHull : (n : ℕ) → (EachOf Ends → Type 0) → PackedHull n → Type 0
HoldsInHull n Holds h = some_lanes (lanes_of n h) ≡ true → Holds (side_of (sides n) (lanes_of n h))

abbrev pub HoldsInHulls : (n : ℕ) → (EachOf Ends → Type 0) → List (PackedHull n) → (from count : ℕ) → Type 0
HoldsInHulls n Holds hulls from count =
    (i : ℕ) → i < count → HoldsInHull n Holds (get_or hulls (from + i) (nothing n))

abbrev pub AreWatched : (n : ℕ) → Watched → List (PackedHull n) → (from count : ℕ) → Type 0
AreWatched n k = HoldsInHulls n (IsKnown k)

-- a way to glue takes two hulls, if registers lie in both; and those at `count` places from `from` on of two columns
abbrev pub IsTaken : (n : ℕ) → (EachOf Ends → EachOf Ends → Type 0) → (left right : PackedHull n) → Type 0
IsTaken n Takes left right =
    some_lanes (lanes_of n left) ≡ true → some_lanes (lanes_of n right) ≡ true →
    Takes (side_of (sides n) (lanes_of n left)) (side_of (sides n) (lanes_of n right))

abbrev pub AreTaken :
    (n : ℕ) → (EachOf Ends → EachOf Ends → Type 0) → (left right : List (PackedHull n)) → (from count : ℕ) → Type 0
AreTaken n Takes left right from count =
    (i : ℕ) → i < count →
    IsTaken n Takes (get_or left (from + i) (nothing n)) (get_or right (from + i) (nothing n))
