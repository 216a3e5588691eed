-- Hulls in packed form: what their lanes stand for.
use Rattle.std.specs.Prelude.{◌≡◌, ◌⊎◌, ◌<◌, ◌≤◌, ◌+◌, ◌*◌, ℕ, ◌<ℤ◌, ◌≤ℤ◌, ℤ, pos, negsuc, neg_ℤ, Bool, true, cond, ◌&&◌, if◌then◌else◌, int_le, nat_le, Option, None, Some, List, length, get_or, set}
use Rattle.std.specs.Int.{int_max}
use Rattle.ts_base.specs.declared.ext.Ext.{Ext}
use Rattle.ts_base.specs.declared.ext.Ext.TheVariants.{NegInf, Int, PosInf}
use Rattle.ts_base.specs.declared.span.Span.{Span}
use Rattle.ts_base.specs.Spans.{has_some, none_span, one_span}
use Rattle.ts_automaton.specs.declared.regs.Hull.{Hull}
use Rattle.ts_hull.specs.Sealed.{hull_with}
use Rattle.ts_hull.specs.Smalls.{small_span}
use Rattle.ts_sweep.specs.declared.packed.Ends.{Ends}
use Rattle.ts_sweep.specs.declared.packed.Name.{Name}
use Rattle.ts_sweep.specs.declared.packed.Name.TheVariants.{C, E, D, F, R}
use Rattle.ts_sweep.specs.Lanes.{least, no_lanes}

-- a lane as an upper end: the greatest number stands for +∞, the greatest negated for -∞, as does nothing
abbrev pub upper : ℤ → Ext
upper x = if int_le x (negsuc 9223372036854775806) then NegInf else if int_le
    (pos 9223372036854775807) x then PosInf else Int x

abbrev pub negated : Ext → Ext
negated NegInf = PosInf
negated (Int x) = Int (neg_ℤ x)
negated PosInf = NegInf

-- two lanes as a span: the lower end is negated
abbrev pub span_of : ℤ → ℤ → Span
span_of x y = record { lo = negated (upper x); hi = upper y }

abbrev pub ends_span : Ends → Span
ends_span e = span_of e.below e.above

abbrev pub ends : ℤ → ℤ → Ends
ends below above = record { below = below; above = above }

-- the ends of a number
abbrev pub number_ends : ℤ → Ends
number_ends x = ends (neg_ℤ x) x

-- the ends at a place of two lanes, and their span
abbrev pub ends_at : List ℤ → ℕ → Ends
ends_at xs p = ends (get_or xs (2 * p) (pos 0)) (get_or xs (2 * p + 1) (pos 0))

abbrev pub register_span : List ℤ → ℕ → Span
register_span xs p = ends_span (ends_at xs p)

-- lanes with other ends at a place
abbrev pub with_ends_at : List ℤ → ℕ → Ends → List ℤ
with_ends_at xs p e = set (set xs (2 * p) e.below) (2 * p + 1) e.above

-- ten lanes are those of a wide hull
abbrev pub is_wide : ℕ → Bool
is_wide n = nat_le 10 n

-- the place of a register: narrow hulls have none for E and F
abbrev pub place_in : Bool → Name → Option ℕ
place_in wide C = Some 0
place_in wide E = cond wide (Some 1) None
place_in wide D = Some (cond wide 2 1)
place_in wide F = cond wide (Some 3) None
place_in wide R = Some (cond wide 4 2)

-- the place of a register in n lanes
abbrev pub place : ℕ → Name → Option ℕ
place n name = place_in (is_wide n) name

-- the ends of a register by its place, those of 0 if it has none, and lanes with other ends of it
abbrev pub ends_in : List ℤ → Option ℕ → Ends
ends_in xs None = number_ends (pos 0)
ends_in xs (Some p) = ends_at xs p

abbrev pub with_ends_in : List ℤ → Option ℕ → Ends → List ℤ
with_ends_in xs None e = xs
with_ends_in xs (Some p) e = with_ends_at xs p e

-- the ends of a register
abbrev pub name_ends : List ℤ → Name → Ends
name_ends xs name = ends_in xs (place (length xs) name)

-- the span of a register by its place: one that has none holds 0 where registers lie in the lanes
abbrev pub span_in_lanes : List ℤ → Option ℕ → Span
span_in_lanes xs None = if has_some (register_span xs 0) then one_span (Int (pos 0)) else none_span
span_in_lanes xs (Some p) = register_span xs p

abbrev pub name_span : List ℤ → Name → Span
name_span xs name = span_in_lanes xs (place (length xs) name)

-- the hull with a span for each register
abbrev pub hull_by : (Name → Span) → Hull
hull_by span = hull_with (span C) (span E) (span D) (span F) (span R)

-- the hull that lanes stand for
unfoldable pub unpacked : List ℤ → Hull
unpacked xs = hull_by (name_span xs)

-- a register lies between the ends
pub record IsSomeEnds (e : Ends) : Type 0 where
  pub below : least <ℤ e.below
  pub above : least <ℤ e.above
  pub some : has_some (ends_span e) ≡ true

-- n lanes have the place, or at least the first one where there is none
abbrev pub IsPlace : ℕ → Option ℕ → Type 0
IsPlace n None = 2 * 0 + 1 < n
IsPlace n (Some p) = 2 * p + 1 < n

-- registers lie in all n lanes
pub record AreSome (n : ℕ) (xs : List ℤ) : Type 0 where
  pub len : length xs ≡ n
  pub above : (k : ℕ) → k < n → least <ℤ get_or xs k (pos 0)
  pub some : (register : ℕ) → 2 * register + 1 < n → has_some (register_span xs register) ≡ true

-- registers lie in all of n lanes, or there is nothing in each
abbrev pub IsPacked : ℕ → List ℤ → Type 0
IsPacked n xs = (xs ≡ no_lanes n) ⊎ AreSome n xs

-- `count` hulls, each packed
abbrev pub ArePacked : {X : Type 0} → (X → List ℤ) → X → ℕ → ℕ → List X → Type 0
ArePacked lanes none n count hulls =
    (length hulls ≡ count) × ((i : ℕ) → i < count → IsPacked n (lanes (get_or hulls i none)))

-- registers lie between ends that stand for a span
pub record IsPackOf (e : Ends) (s : Span) : Type 0 where
  pub some : IsSomeEnds e
  pub span : ends_span e ≡ s

-- the greater of each end
abbrev pub max_ends : Ends → Ends → Ends
max_ends a b = ends (int_max a.below b.below) (int_max a.above b.above)

-- each lane is at most that of the cover
abbrev pub IsUnder : List ℤ → List ℤ → Type 0
IsUnder xs cover = (k : ℕ) → get_or xs k (pos 0) ≤ℤ get_or cover k (pos 0)

-- a number of at most k steps of 10^16 in size, and ends that are
abbrev pub IsWithin : ℕ → ℤ → Type 0
IsWithin k x = (neg_ℤ (pos (k * 10000000000000000)) ≤ℤ x) × (x ≤ℤ pos (k * 10000000000000000))

abbrev pub AreWithin : ℕ → Ends → Type 0
AreWithin k e = IsWithin k e.below × IsWithin k e.above

-- no end of a register is a number above 10^16 in size
abbrev pub small_lanes : List ℤ → Bool
small_lanes xs =
    small_span (ends_span (name_ends xs C)) && small_span (ends_span (name_ends xs E))
    && small_span (ends_span (name_ends xs D)) && small_span (ends_span (name_ends xs F))
    && small_span (ends_span (name_ends xs R))
