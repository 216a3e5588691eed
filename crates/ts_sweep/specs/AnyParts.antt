-- Expressions that are known only when the program runs, by how they read the next cell.
use Rattle.std.specs.Prelude.{◌≡◌, ℤ, Bool, true, false, Option, None, Some}
use Rattle.ts_base.specs.declared.op.Op.{Op}
use Rattle.ts_automaton.specs.declared.expr.Operator.TheVariants.{Fold, Sub}
use Rattle.ts_automaton.specs.Body.{Move}
use Rattle.ts_automaton.specs.Formula.{Formula, Leaf, Join, formula}
use Rattle.ts_automaton.specs.Registers.{each}
use Rattle.ts_hull.specs.Cuts.{Cut, cut_of}
use Rattle.ts_hull.specs.Splits.{Split, FrontOf, TailOf, ByPairs}
use Rattle.ts_sweep.specs.declared.any_part.AnyPart.{AnyPart}
use Rattle.ts_sweep.specs.declared.any_part.AnyPart.TheVariants.{Front, Tail, Double}
use Rattle.ts_sweep.specs.declared.moves.Parts.{Parts}
use Rattle.ts_sweep.specs.declared.packed.Ends.{Ends}
use Rattle.ts_sweep.specs.declared.reading.Reading.{Reading}
use Rattle.ts_sweep.specs.declared.reading.Reading.TheVariants.{Never, Last, Inner}
use Rattle.ts_sweep.specs.declared.swept.Readings.{Readings}
use Rattle.ts_sweep.specs.Packed.{number_ends}
use Rattle.ts_sweep.specs.Trees.{folded_by}

-- how an expression is split that reads the next cell so: `o e (p f r)` is taken as `o (o e f) r`
abbrev pub inner_split : Op → Formula → Formula → Split
inner_split o e (Leaf a) = ByPairs
inner_split o e (Join p f r) = TailOf o (Join (Fold o) e f)

abbrev pub split_as : Reading → Formula → Split
split_as Never f = FrontOf f
split_as Last (Leaf a) = ByPairs
split_as Last (Join (Fold o) e f) = TailOf o e
split_as Last (Join Sub e f) = ByPairs
split_as Inner (Leaf a) = ByPairs
split_as Inner (Join (Fold o) e f) = inner_split o e f
split_as Inner (Join Sub e f) = ByPairs

-- and one that may read it in another way
abbrev pub split_read : Option Reading → Formula → Split
split_read None f = ByPairs
split_read (Some k) f = split_as k f

-- the expressions of a move, each split so
abbrev pub cut_as : Readings → Move → Cut
cut_as k m =
    each (split_as k.c m.to.c) (split_as k.e m.to.e) (split_as k.d m.to.d) (split_as k.f m.to.f) (split_as k.r m.to.r)

-- the expressions of a move read the next cell so
abbrev pub AreReadingsOf : Move → Readings → Type 0
AreReadingsOf m k = cut_as k m ≡ cut_of m

-- what of it doesn't read the next cell
abbrev pub part_front : AnyPart → Formula
part_front (Front e) = formula e.now
part_front (Tail o e) = formula e.now
part_front (Double o e f) = Join (Fold o) (formula e.now) (formula f.now)

-- how a part is split
abbrev pub part_split : AnyPart → Split
part_split (Front e) = FrontOf (formula e.now)
part_split (Tail o e) = TailOf o (formula e.now)
part_split (Double o e f) = TailOf o (Join (Fold o) (formula e.now) (formula f.now))

-- how an expression is split: as its part is, or by pairs where it is none
abbrev pub split_by : Option AnyPart → Split
split_by None = ByPairs
split_by (Some k) = part_split k

-- the next cell stands in a part
abbrev pub part_tails : AnyPart → Bool
part_tails (Front e) = false
part_tails (Tail o e) = true
part_tails (Double o e f) = true

-- what the next cell y makes of the ends of a part's front
abbrev pub part_closed : AnyPart → Ends → ℤ → Ends
part_closed (Front e) a y = a
part_closed (Tail o e) a y = folded_by o a (number_ends y)
part_closed (Double o e f) a y = folded_by o a (number_ends y)

-- the split expressions of a move
abbrev pub parts_cut : Parts AnyPart AnyPart AnyPart AnyPart AnyPart → Cut
parts_cut p = each (part_split p.c) (part_split p.e) (part_split p.d) (part_split p.f) (part_split p.r)
