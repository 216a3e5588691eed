-- A series with its two runs.
use Rattle.std.specs.Prelude.{◌≡◌, ℕ, suc, ◌-◌, ℤ, List, length, reverse, Some}
use Rattle.ts_base.specs.declared.ext.Ext.{Ext}
use Rattle.ts_glue.specs.declared.machine.Machine.{Machine}
use Rattle.ts_glue.specs.Machines.{forward_of, pair_of}
use Rattle.ts_glue.specs.Glued.{glued_value}
use Rattle.ts_glue.specs.Pairs.{Pair}
use Rattle.ts_witness.specs.declared.witness.Sides.{Sides}
use Rattle.ts_witness.specs.declared.witness.Witness.{Witness}
use Rattle.ts_witness.specs.Runs.{IsSide, Runs, arrived, cells_in}

abbrev pub series_of : Witness → List ℤ
series_of w = cells_in w.ahead

-- the runs are those of the machine on the series: of the forward automaton, and of the reverse one from the last cell
pub record IsWitness (m : Machine) (w : Witness) : Type 0 where
  pub mirror : cells_in w.behind ≡ reverse (series_of w)
  pub ahead : Runs (forward_of m) w.ahead
  pub behind : (p : Pair) → pair_of m ≡ Some p → Runs p.reverse w.behind

-- the runs have these sides beside the place i of the series
pub record AreSides (m : Machine) (y : List ℤ) (i : ℕ) (s : Sides) : Type 0 where
  pub left : IsSide (forward_of m) y i s.left
  pub right : (p : Pair) → pair_of m ≡ Some p → IsSide p.reverse (reverse y) (length y - suc i) s.right

-- the value of a series of n cells with the value v at the place i, where the runs have that beside it
abbrev pub value_between : Pair → ℕ → ℕ → Sides → ℤ → Ext
value_between p n i s v = glued_value p (arrived p.forward i s.left v) (arrived p.reverse (n - suc i) s.right v) v n
