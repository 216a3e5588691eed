-- The cover of a column: between which numbers its hulls lie.
use Rattle.std.specs.Prelude.{◌≡◌, ◌<◌, ℕ, ℤ, neg_ℤ, pos, Bool, true, if◌then◌else◌, int_le, List, get_or, map}
use Rattle.ts_sweep.specs.declared.cover.Cover.{Cover}
use Rattle.ts_sweep.specs.declared.packed.Ends.{Ends}
use Rattle.ts_sweep.specs.declared.packed.Name.{Name}
use Rattle.ts_sweep.specs.declared.packed.Name.TheVariants.{C, E, D, F, R}
use Rattle.ts_sweep.specs.declared.packed.PackedHull.{PackedHull}
use Rattle.ts_sweep.specs.Fronts.{ArePlain}
use Rattle.ts_sweep.specs.Lanes.{greater_of, least, no_lanes, some_lanes}
use Rattle.ts_sweep.specs.Packed.{ends, name_ends, AreWithin}
use Rattle.ts_sweep.specs.Sides.{Sides, BothEnds, UpperEnds, LowerEnds, as_read}
use Rattle.ts_sweep.specs.Sweeps.{total}

-- the ends of a register in a cover
abbrev pub cover_ends : Cover → Name → Ends
cover_ends c C = c.c
cover_ends c E = c.e
cover_ends c D = c.d
cover_ends c F = c.f
cover_ends c R = c.r

-- where neither end of a register in the cover is above 10^16, its ends in the lanes are small numbers
abbrev pub IsBounded : Cover → List ℤ → Type 0
IsBounded cover xs = (k : Name) → ArePlain (cover_ends cover k) → AreWithin 1 (name_ends xs k)

-- a cover bounds the ends of a hull in which registers lie, as they are read
abbrev pub IsHullBounded : Sides → Cover → List ℤ → Type 0
IsHullBounded s cover xs = some_lanes xs ≡ true → IsBounded cover (as_read s xs)

-- one cover bounds the ends of each of `count` hulls
abbrev pub IsCoverOf : {X : Type 0} → Sides → (X → List ℤ) → X → Cover → ℕ → List X → Type 0
IsCoverOf s lanes none cover count hulls =
    (i : ℕ) → i < count → IsHullBounded s cover (lanes (get_or hulls i none))

-- a lane negated; nothing stays nothing
abbrev pub turned : ℤ → ℤ
turned x = if int_le x least then least else neg_ℤ x

abbrev pub turned_hull : (n : ℕ) → PackedHull n → PackedHull n
turned_hull n h = record { at = map turned h.at }

-- the ends of a register in a cover, from those in the join of all hulls and in that of all hulls with lanes negated:
-- one end alone is bounded from both sides by both
abbrev pub bound_ends : Sides → Ends → Ends → Ends
bound_ends BothEnds e turned = e
bound_ends UpperEnds e turned = ends turned.above e.above
bound_ends LowerEnds e turned = ends e.below turned.below

-- the join of two hulls, and of any number of hulls
abbrev pub join_of : (n : ℕ) → PackedHull n → PackedHull n → PackedHull n
join_of n a b = record { at = greater_of a.at b.at }

abbrev pub nothing_of : (n : ℕ) → PackedHull n
nothing_of n = record { at = no_lanes n }

abbrev pub join_of_all : (n : ℕ) → (ℕ → PackedHull n) → ℕ → PackedHull n
join_of_all n f count = total (join_of n) (nothing_of n) (λ i. true) f count
