-- The laws of expressions that are known only when the program runs.
-- Lemmas, no definitions: they are here since ghost members of impls cite them.
use Rattle.std.proofs.Common.{◌≡◌, ℤ, pos, false, List, refl}
use Rattle.ts_base.specs.declared.ext.Ext.TheVariants.{Int}
use Rattle.ts_base.specs.declared.span.Span.{Span}
use Rattle.ts_base.specs.Spans.{one_span}
use Rattle.ts_hull.specs.Splits.{front_span, closed_span}
use Rattle.ts_sweep.specs.declared.any_part.AnyPart.{AnyPart}
use Rattle.ts_sweep.specs.declared.any_part.AnyPart.TheVariants.{Front, Tail, Double}
use Rattle.ts_sweep.specs.declared.packed.Ends.{Ends}
use Rattle.ts_sweep.specs.AnyParts.{part_front, part_split, part_tails, part_closed}
use Rattle.ts_automaton.specs.declared.regs.Hull.{Hull}
use Rattle.ts_sweep.specs.Fronts.{AreEndsOf, IsSplitFor}
use Rattle.ts_sweep.specs.FrontLaws.{never_added, number_ends_of, small_number}
use Rattle.ts_sweep.specs.Packed.{number_ends}
use Rattle.ts_sweep.specs.Sides.{Sides, IsEndsOf}
use Rattle.ts_sweep.specs.Small.{IsSmall}
use Rattle.ts_sweep.specs.Trees.{tree_value}
use Rattle.ts_sweep.specs.TreeLaws.{any_packs, tree_packs, zero_small}

-- the ends of a part's front stand for the front
pub part_packs : (k : AnyPart) (s : Sides) (xs : List ℤ) (h : Hull) (x : ℤ) → AreEndsOf s xs h →
    IsSplitFor s (part_split k) →
    IsSmall x →
    IsEndsOf s (tree_value (part_front k) xs x (pos 0)) (front_span (part_split k) h x)
part_packs (Front e) s xs h x are suits small =
    tree_packs (part_front (Front e)) s xs h x (pos 0) are suits small zero_small
part_packs (Tail o e) s xs h x are suits small =
    tree_packs (part_front (Tail o e)) s xs h x (pos 0) are suits small zero_small
part_packs (Double o e f) s xs h x are suits small =
    tree_packs (part_front (Double o e f)) s xs h x (pos 0) are suits small zero_small

-- the next cell changes nothing where a part has no tail
pub part_no_tail : (k : AnyPart) (s : Span) (y : ℤ) → part_tails k ≡ false → closed_span (part_split k) s y ≡ s
part_no_tail (Front e) s y none = refl
part_no_tail (Tail o e) s y none = never_added none
part_no_tail (Double o e f) s y none = never_added none

-- closed ends of a part stand for the closed span
pub part_closed_packs : (k : AnyPart) (s : Sides) (a : Ends) (t : Span) (y : ℤ) → IsEndsOf s a t → IsSmall y →
    IsEndsOf s (part_closed k a y) (closed_span (part_split k) t y)
part_closed_packs (Front e) s a t y p small = p
part_closed_packs (Tail o e) s a t y p small =
    any_packs o s a (number_ends y) t (one_span (Int y)) p (number_ends_of s y (small_number y small))
part_closed_packs (Double o e f) s a t y p small =
    any_packs o s a (number_ends y) t (one_span (Int y)) p (number_ends_of s y (small_number y small))
