-- A move that is taken in as an emission.
use Rattle.std.proofs.Common.{◌≡◌, ℕ, ◌<◌, Bool, true, ℤ, List, length, get_or, sym, ap, subst, ◌∙◌}
use Rattle.ts_base.specs.declared.op.Op.{Op}
use Rattle.ts_base.specs.declared.op.Op.TheVariants.{Add, Max}
use Rattle.ts_automaton.specs.Body.{move_of}
use Rattle.ts_automaton.specs.Formula.{Formula}
use Rattle.ts_automaton.specs.Registers.{EachOf}
use Rattle.ts_row.specs.declared.between.Between.{Between}
use Rattle.ts_row.specs.Rows.{lanes_of, nothing}
use Rattle.ts_row.specs.Takings.{AreEmitted, IsCovered, count_in}
use Rattle.ts_sweep.specs.declared.packed.PackedHull.{PackedHull}
use Rattle.ts_sweep.specs.declared.packed.Name.TheVariants.{R}
use Rattle.ts_sweep.specs.declared.pair_move.Emission.{Emission}
use Rattle.ts_sweep.specs.Covers.{IsBounded}
use Rattle.ts_sweep.specs.Lanes.{some_lanes}
use Rattle.ts_sweep.specs.Packed.{AreWithin, name_ends}
use Rattle.ts_sweep.specs.PairMoves.{IsBegun, emission, pair_op}
use Rattle.ts_sweep.specs.Sides.{as_read, has_wide, sides}

-- an emission serves all hulls of a column whose sums stay small under the cover and in which D and F hold no cell yet
pub are_emitted : (n : ℕ) (t : Between n) (by : Emission) → IsCovered n t →
    ((move_of by.turn.now).to ≡ emission (has_wide n) by.ranges by.cells) × (has_wide n ≡ true → by.cells ≡ Max) →
    (by.ranges ≡ Add → (xs : List ℤ) → IsBounded t.cover.now xs → AreWithin 1 (name_ends xs R)) →
    ((i : ℕ) → i < length t.before.now → some_lanes (lanes_of n (get_or t.before.now i (nothing n))) ≡ true →
    IsBegun (sides n) (has_wide n) by.cells (as_read (sides n) (lanes_of n (get_or t.before.now i (nothing n))))) →
    AreEmitted n by (count_in t.values.now) t.before.now
are_emitted n t by covered is plain begun i inside some = record {
  made = is.0;
  one = is.1;
  small = λ add. plain add _ (covered.cover i inside some);
  begun = begun i (subst (λ k. i < k) (sym covered.packed.0) inside) some;
}

-- in a wide hull neither D nor F holds a cell yet
pub are_begun : (n : ℕ) (by : Emission) (count : ℕ) (hulls : List (PackedHull n)) → has_wide n ≡ true → AreEmitted n by count hulls → (i : ℕ) → i < count →
    some_lanes (lanes_of n (get_or hulls i (nothing n))) ≡ true →
    IsBegun (sides n) true Max (as_read (sides n) (lanes_of n (get_or hulls i (nothing n))))
are_begun n by count hulls wide fit i inside some =
    let is = fit i inside some in
    let xs = as_read (sides n) (lanes_of n (get_or hulls i (nothing n))) in
    subst (λ b. IsBegun (sides n) b Max xs) wide (subst (λ cells. IsBegun (sides n) (has_wide n) cells xs) (is.one wide) is.begun)

-- the emission that serves a wide hull is one of wide automata
pub wide_emission : (to : EachOf Formula) (wide greatest : Bool) (ranges cells : Op) → to ≡ emission wide ranges cells → wide ≡ true →
    cells ≡ Max → ranges ≡ pair_op greatest → to ≡ emission true (pair_op greatest) Max
wide_emission to wide greatest ranges cells made is one same =
    made ∙ ap (λ b. emission b ranges cells) is ∙ ap (emission true ranges) one ∙ ap (λ o. emission true o Max) same
