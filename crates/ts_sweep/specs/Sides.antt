-- Hulls of both ends, or of one end alone: what they have lanes for, and what they show.
use Rattle.std.specs.Prelude.{◌≡◌, ℕ, ◌+◌, ◌<ℤ◌, ℤ, pos, Bool, true, false, cond, not, if◌then◌else◌, int_le, nat_eq, Option, None, Some, List, [], ◌∷◌, set}
use Rattle.ts_base.specs.declared.ext.Ext.{Ext}
use Rattle.ts_base.specs.declared.ext.Ext.TheVariants.{NegInf, PosInf}
use Rattle.ts_base.specs.declared.span.Span.{Span}
use Rattle.ts_base.specs.Spans.{has_some, none_span}
use Rattle.ts_automaton.specs.declared.regs.Hull.{Hull}
use Rattle.ts_hull.specs.Sealed.{hull_with, span_from}
use Rattle.ts_sweep.specs.declared.packed.Ends.{Ends}
use Rattle.ts_sweep.specs.Lanes.{least}
use Rattle.ts_sweep.specs.Packed.{ends, is_wide, negated, upper, with_ends_in}

-- the ends that there are lanes for
pub data Sides : Type 0 where
  BothEnds : Sides
  UpperEnds : Sides
  LowerEnds : Sides

-- three lanes are the upper ends of a narrow hull, four its lower ends and one that is idle; others hold both ends
abbrev pub sides : ℕ → Sides
sides n = if nat_eq n 3 then UpperEnds else if nat_eq n 4 then LowerEnds else BothEnds

-- the end beside one that is kept: infinity, and nothing beside nothing
abbrev pub filled : ℤ → ℤ
filled x = if int_le x least then least else pos 9223372036854775807

-- lanes of one end, with the end beside each
unfoldable pub upper_lanes : List ℤ → List ℤ
upper_lanes [] = []
upper_lanes (x ∷ xs) = filled x ∷ x ∷ upper_lanes xs

unfoldable pub lower_lanes : List ℤ → List ℤ
lower_lanes [] = []
lower_lanes (x ∷ xs) = x ∷ filled x ∷ lower_lanes xs

-- lanes with both ends, from those that there are
abbrev pub lanes_by : Sides → List ℤ → List ℤ
lanes_by BothEnds xs = xs
lanes_by UpperEnds xs = upper_lanes xs
lanes_by LowerEnds xs = lower_lanes xs

-- the number of lanes with both ends, from the number of those that there are
abbrev pub count_by : Sides → ℕ → ℕ
count_by BothEnds n = n
count_by UpperEnds n = n + n
count_by LowerEnds n = n + n

abbrev pub lanes_in : ℕ → List ℤ → List ℤ
lanes_in n xs = lanes_by (sides n) xs

abbrev pub lane_count : ℕ → ℕ
lane_count n = count_by (sides n) n

abbrev pub has_wide : ℕ → Bool
has_wide n = is_wide (lane_count n)

-- lanes in which each second one is 0, from the first or from the second on
unfoldable pub every_other : Bool → List ℤ → List ℤ
every_other keep [] = []
every_other keep (x ∷ xs) = cond keep x (pos 0) ∷ every_other (not keep) xs

-- lanes as they are read: an end that isn't kept is 0
abbrev pub as_read : Sides → List ℤ → List ℤ
as_read BothEnds xs = xs
as_read UpperEnds xs = every_other false xs
as_read LowerEnds xs = every_other true xs

abbrev pub read_ends : Sides → Ends → Ends
read_ends BothEnds e = e
read_ends UpperEnds e = ends (pos 0) e.above
read_ends LowerEnds e = ends e.below (pos 0)

-- the ends that are kept, with the end beside each
abbrev pub kept_ends : Sides → Ends → Ends
kept_ends BothEnds e = e
kept_ends UpperEnds e = ends (filled e.above) e.above
kept_ends LowerEnds e = ends e.below (filled e.below)

-- lanes with another end at a place
abbrev pub with_one : List ℤ → Option ℕ → ℤ → List ℤ
with_one xs None x = xs
with_one xs (Some p) x = set xs p x

abbrev pub with_kept : Sides → List ℤ → Option ℕ → Ends → List ℤ
with_kept BothEnds xs o e = with_ends_in xs o e
with_kept UpperEnds xs o e = with_one xs o e.above
with_kept LowerEnds xs o e = with_one xs o e.below

-- what is seen of a span: an end that isn't kept is infinite
abbrev pub seen : Sides → Span → Span
seen BothEnds t = t
seen UpperEnds t = if has_some t then span_from NegInf t.hi else none_span
seen LowerEnds t = if has_some t then span_from t.lo PosInf else none_span

-- what is seen of a hull: E and F whole, since they are 0 in a hull of one end alone
abbrev pub seen_hull : Sides → Hull → Hull
seen_hull s h = hull_with (seen s h.c) h.e (seen s h.d) h.f (seen s h.r)

-- a lane is an upper end, or a lower one
abbrev pub IsUpper : ℤ → Ext → Type 0
IsUpper x a = (least <ℤ x) × (upper x ≡ a)

abbrev pub IsLower : ℤ → Ext → Type 0
IsLower x a = (least <ℤ x) × (negated (upper x) ≡ a)

-- what is said of the lower end, where it is kept, and of the upper one
abbrev pub IfBelow : Sides → Type 0 → Type 0
IfBelow BothEnds P = P
IfBelow UpperEnds P = Unit {0}
IfBelow LowerEnds P = P

abbrev pub IfAbove : Sides → Type 0 → Type 0
IfAbove BothEnds P = P
IfAbove UpperEnds P = P
IfAbove LowerEnds P = Unit {0}

-- the ends that are kept are those of a span in which a register lies
pub record IsEndsOf (s : Sides) (e : Ends) (t : Span) : Type 0 where
  pub some : has_some t ≡ true
  pub below : IfBelow s (IsLower e.below t.lo)
  pub above : IfAbove s (IsUpper e.above t.hi)
