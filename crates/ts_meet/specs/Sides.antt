-- The registers on both sides of a cell, by their ends, and what operators and a mark make of ends.
use Rattle.std.specs.Prelude.{◌≡◌, ◌⊎◌, ℕ, ℤ, Bool, true, false, pos, negsuc, neg_ℤ, int_le, if◌then◌else◌, List}
use Rattle.std.specs.Int.{int_max, int_min}
use Rattle.ts_base.specs.declared.ext.Ext.{Ext}
use Rattle.ts_base.specs.declared.span.Span.{Span}
use Rattle.ts_base.specs.declared.op.Op.{Op}
use Rattle.ts_base.specs.declared.op.Op.TheVariants.{Add, Max, Min}
use Rattle.ts_base.specs.Spans.{has_some, none_span, one_span}
use Rattle.ts_automaton.specs.declared.state.Mark.{Mark}
use Rattle.ts_automaton.specs.declared.state.Mark.TheVariants.{Same, Zero, Cells}
use Rattle.ts_automaton.specs.declared.expr.Operator.{Operator}
use Rattle.ts_automaton.specs.declared.expr.Operator.TheVariants.{Fold, Sub}
use Rattle.ts_automaton.specs.Registers.{EachOf, each, map_each, Each, Values}
use Rattle.ts_sweep.specs.declared.packed.Ends.{Ends}
use Rattle.ts_sweep.specs.declared.packed.Name.TheVariants.{C, E, D, F, R}
use Rattle.ts_sweep.specs.Lanes.{least}
use Rattle.ts_sweep.specs.Operators.{crossed, sum_of_ends, greater_of_ends, lesser_of_ends}
use Rattle.ts_sweep.specs.Packed.{ends, name_ends, negated, AreWithin, IsPackOf, IsSomeEnds}
use Rattle.ts_sweep.specs.Sides.{Sides, BothEnds, UpperEnds, LowerEnds}
use Rattle.ts_sweep.specs.Trees.{joined_by, lane_of}
use Rattle.ts_meet.specs.declared.side.Side.{Side}

-- an end that isn't kept is read as the one that is: so the two are a single number or infinity
abbrev pub turned : ℤ → ℤ
turned x = neg_ℤ (int_min x (pos 9223372036854775807))

abbrev pub pointed_ends : Sides → Ends → Ends
pointed_ends BothEnds e = e
pointed_ends UpperEnds e = ends (turned e.above) e.above
pointed_ends LowerEnds e = ends e.below (turned e.below)

abbrev pub pointed : Sides → Span → Span
pointed BothEnds t = t
pointed UpperEnds t = if has_some t then one_span t.hi else none_span
pointed LowerEnds t = if has_some t then one_span t.lo else none_span

-- where registers lie between ends, an end that isn't kept is infinite again
abbrev pub shown_ends : Sides → Ends → Ends
shown_ends BothEnds e = e
shown_ends UpperEnds e = ends (pos 9223372036854775807) e.above
shown_ends LowerEnds e = ends e.below (pos 9223372036854775807)

-- what contracts see of the registers on one side; those in lanes, and those of spans
abbrev pub ends_in : Side → EachOf Ends
ends_in s = each s.c s.e s.d s.f s.r

abbrev pub side_of : Sides → List ℤ → EachOf Ends
side_of s xs =
    each (pointed_ends s (name_ends xs C)) (pointed_ends s (name_ends xs E)) (pointed_ends s (name_ends xs D))
    (pointed_ends s (name_ends xs F)) (pointed_ends s (name_ends xs R))

abbrev pub pointed_spans : Sides → EachOf Span → EachOf Span
pointed_spans s regs = map_each (pointed s) regs

-- a register lies between the ends of each
abbrev pub AreSomeEnds : EachOf Ends → Type 0
AreSomeEnds s = IsSomeEnds s.c × IsSomeEnds s.e × IsSomeEnds s.d × IsSomeEnds s.f × IsSomeEnds s.r

-- the ends of registers stand for these spans
abbrev pub ArePackOf : EachOf Ends → EachOf Span → Type 0
ArePackOf = Each IsPackOf

-- an end is infinite outwards
abbrev pub is_far : Ends → Bool
is_far e = int_le (pos 9223372036854775807) (int_max e.below e.above)

-- both ends are minus infinity; both are infinity; both are one of them
abbrev pub IsLowest : Ends → Type 0
IsLowest e = (e.below ≡ pos 9223372036854775807) × (e.above ≡ negsuc 9223372036854775806)

abbrev pub IsHighest : Ends → Type 0
IsHighest e = (e.below ≡ negsuc 9223372036854775806) × (e.above ≡ pos 9223372036854775807)

abbrev pub IsInfinity : Ends → Type 0
IsInfinity e = IsLowest e ⊎ IsHighest e

-- both ends are the infinity that an operator passes over
abbrev pub IsNeutral : Op → Ends → Type 0
IsNeutral Add e = ⊥
IsNeutral Max e = IsLowest e
IsNeutral Min e = IsHighest e

-- the first less the second: one infinity stays
abbrev pub kept_less : Ends → Ends → Ends
kept_less a b = if is_far a then a else sum_of_ends a (crossed b)

-- operators whose sums are those of the lanes
abbrev pub plain_by : Operator → Ends → Ends → Ends
plain_by (Fold Add) a b = sum_of_ends a b
plain_by (Fold Max) a b = greater_of_ends a b
plain_by (Fold Min) a b = lesser_of_ends a b
plain_by Sub a b = kept_less a b

-- what plain operators are right of: small numbers alone, but one infinity from which something is taken away
abbrev pub TakesPlain : Operator → Ends → Ends → Type 0
TakesPlain (Fold Add) a b = AreWithin 5 a × AreWithin 5 b
TakesPlain (Fold Max) a b = Unit {0}
TakesPlain (Fold Min) a b = Unit {0}
TakesPlain Sub a b = (is_far a ≡ false → AreWithin 5 a) × (is_far a ≡ true → IsInfinity a) × AreWithin 5 b

-- nothing is taken away from an infinity
abbrev pub IsNear : Operator → Ends → Type 0
IsNear (Fold o) a = Unit {0}
IsNear Sub a = is_far a ≡ false

abbrev pub TakesNear : Operator → Ends → Ends → Type 0
TakesNear o a b = TakesPlain o a b × IsNear o a

abbrev pub TakesAny : Operator → Ends → Ends → Type 0
TakesAny o a b = Unit {0}

abbrev pub constant_ends : Ext → Ends
constant_ends e = ends (lane_of (negated e)) (lane_of e)

-- expressions by plain sums, and by sums that are clamped and know infinities
abbrev pub plain_values : Values Ends
plain_values = record { constant = constant_ends; join = plain_by }

abbrev pub clamped_values : Values Ends
clamped_values = record { constant = constant_ends; join = joined_by }

-- a mark on a lane: as an upper end, and as a lower one, which is negated
abbrev pub marked_above : Mark → ℕ → ℤ → ℤ
marked_above Same n x = x
marked_above Zero n x = if int_le x (negsuc 9223372036854775806) then pos 0 else x
marked_above Cells n x = if int_le (pos 9223372036854775807) x then pos n else x

abbrev pub marked_below : Mark → ℕ → ℤ → ℤ
marked_below Same n x = x
marked_below Zero n x = if int_le (pos 9223372036854775807) x then pos 0 else x
marked_below Cells n x = if int_le x (negsuc 9223372036854775806) then neg_ℤ (pos n) else x

-- the end that a mark changes first: the other is infinite inwards only where this one is infinite outwards
abbrev pub first_end : Mark → Ends → ℤ
first_end Same e = e.below
first_end Zero e = e.below
first_end Cells e = e.above

-- the hull of the numbers in two lanes, the first as a lower end
abbrev pub hull_of_lanes : ℤ → ℤ → Ends
hull_of_lanes below above = ends (int_max below (neg_ℤ above)) (int_max (neg_ℤ below) above)

-- a mark on both ends, and the hull of the two
abbrev pub marked_ends : Mark → ℕ → Ends → Ends
marked_ends k n e = hull_of_lanes (marked_below k n e.below) (marked_above k n e.above)

-- the ends of a span that holds nothing
abbrev pub no_ends : Ends
no_ends = ends least least

-- ends that stand for a span, which may hold nothing
abbrev pub StandFor : Ends → Span → Type 0
StandFor e s = ((e ≡ no_ends) × (s ≡ none_span)) ⊎ IsPackOf e s
