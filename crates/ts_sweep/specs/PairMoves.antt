-- Moves over pairs of values.
use Rattle.std.specs.Prelude.{◌≡◌, ℤ, pos, negsuc, ◌+ℤ◌, ◌-ℤ◌, Bool, true, false, ◌&&◌, int_le, if◌then◌else◌, List}
use Rattle.std.specs.Int.{int_max, int_min}
use Rattle.ts_base.specs.declared.letter.Letter.{Letter}
use Rattle.ts_base.specs.declared.letter.Letter.TheVariants.{Less, Equal, Greater}
use Rattle.ts_base.specs.declared.op.Op.{Op}
use Rattle.ts_base.specs.declared.op.Op.TheVariants.{Add, Max, Min}
use Rattle.ts_automaton.specs.declared.expr.Atom.{Atom}
use Rattle.ts_automaton.specs.declared.expr.Atom.TheVariants.{C as AtomC, E as AtomE, D as AtomD, F as AtomF, R as AtomR, This, Next, Zero, NegInf as LowAtom, PosInf as HighAtom}
use Rattle.ts_automaton.specs.declared.expr.Operator.TheVariants.{Fold, Sub}
use Rattle.ts_automaton.specs.Formula.{Formula, Leaf, Join}
use Rattle.ts_automaton.specs.Registers.{EachOf, each}
use Rattle.ts_automaton.specs.Body.{move_of}
use Rattle.ts_sweep.specs.declared.packed.Ends.{Ends}
use Rattle.ts_sweep.specs.declared.packed.Name.TheVariants.{D, F, R}
use Rattle.ts_sweep.specs.declared.pair_move.Emission.{Emission}
use Rattle.ts_sweep.specs.declared.pairs.Reach.{Reach}
use Rattle.ts_sweep.specs.Lanes.{least}
use Rattle.ts_sweep.specs.Moves.{beside}
use Rattle.ts_sweep.specs.Packed.{AreWithin, ends, name_ends, number_ends}
use Rattle.ts_sweep.specs.Sides.{Sides, read_ends}

-- a value lies between two bounds
abbrev pub reaches : Reach → ℤ → Bool
reaches r v = int_le r.low v && int_le v r.high

abbrev pub bounds : ℤ → ℤ → Reach
bounds low high = record { low = low; high = high }

-- the bounds of the values that compare with w as a letter says, or are equal to it where there is a twin
abbrev pub reach_by : Letter → Bool → ℤ → Reach
reach_by Less false w = bounds least (w -ℤ pos 1)
reach_by Less true w = bounds least w
reach_by Equal twin w = bounds w w
reach_by Greater false w = bounds (w +ℤ pos 1) (pos 9223372036854775807)
reach_by Greater true w = bounds w (pos 9223372036854775807)

-- the greatest cell is taken, or the least
abbrev pub pair_op : Bool → Op
pair_op greatest = if greatest then Max else Min

-- the word that D begins with where it takes in cells by an operator, and its ends
abbrev pub start_atom : Op → Atom
start_atom Add = Zero
start_atom Max = LowAtom
start_atom Min = HighAtom

abbrev pub start_ends : Op → Ends
start_ends Add = ends (pos 0) (pos 0)
start_ends Max = ends (pos 9223372036854775807) (negsuc 9223372036854775806)
start_ends Min = ends (negsuc 9223372036854775806) (pos 9223372036854775807)

-- a register, joined with the cell and the next one; and what D gives so, in a wide automaton less what F gives
abbrev pub pair_cells : Op → Atom → Formula
pair_cells o w = Join (Fold o) (Join (Fold o) (Leaf w) (Leaf This)) (Leaf Next)

abbrev pub pair_found : Bool → Op → Formula
pair_found wide cells =
    if wide then Join Sub (pair_cells cells AtomD) (pair_cells Min AtomF)
    else pair_cells cells AtomD

-- the words of E and F, which a narrow automaton doesn't have
abbrev pub held_atom : Bool → Atom
held_atom wide = if wide then AtomE else Zero

abbrev pub open_atom : Bool → Atom
open_atom wide = if wide then HighAtom else Zero

-- the expressions of an emission: R takes in what is found, and D and F begin anew
abbrev pub emission : Bool → Op → Op → EachOf Formula
emission wide o cells =
    each (Leaf AtomC) (Leaf (held_atom wide)) (Leaf (start_atom cells)) (Leaf (open_atom wide))
    (Join (Fold o) (Leaf AtomR) (pair_found wide cells))

-- what an operator makes of a cell and the next one
abbrev pub both_cells : Op → ℤ → ℤ → ℤ
both_cells Add x y = x +ℤ y
both_cells Max x y = int_max x y
both_cells Min x y = int_min x y

-- what is found where D and F hold no cell yet
abbrev pub found_ends : Bool → Op → ℤ → ℤ → Ends
found_ends wide cells x y =
    if wide then ends (int_min x y -ℤ int_max x y) (int_max x y -ℤ int_min x y)
    else number_ends (both_cells cells x y)

-- the greatest of a cell and the next one, or the least, where they compare as a letter says
abbrev pub found_atom : Letter → Bool → Atom
found_atom Less greatest = if greatest then Next else This
found_atom Equal greatest = This
found_atom Greater greatest = if greatest then This else Next

-- neither D nor F holds a cell yet, as far as their ends are kept
abbrev pub IsBegun : Sides → Bool → Op → List ℤ → Type 0
IsBegun s wide cells xs =
    (name_ends xs D ≡ read_ends s (start_ends cells)) × (name_ends xs F ≡ beside wide (start_ends Min))

-- an emission serves lanes as they are read: it is the move, sums stay small, and neither D nor F holds a cell yet
pub record IsEmitted (s : Sides) (wide : Bool) (k : Emission) (xs : List ℤ) : Type 0 where
  pub made : (move_of k.turn.now).to ≡ emission wide k.ranges k.cells
  pub one : wide ≡ true → k.cells ≡ Max
  pub small : k.ranges ≡ Add → AreWithin 1 (name_ends xs R)
  pub begun : IsBegun s wide k.cells xs
