-- A machine that lends a reverse automaton can be split, and its rows backward are those of that automaton.
use Rattle.std.proofs.Common.{◌≡◌, refl}
use Rattle.std.specs.Prelude.{ℤ, List, Option, None, Some, IfSome, IsSome, option_map}
use Rattle.ts_automaton.specs.Body.{Body}
use Rattle.ts_automaton.specs.declared.regs.Hull.{Hull}
use Rattle.ts_base.specs.declared.range.Range.{Range}
use Rattle.ts_bound.specs.Blocks.{AreBackRows}
use Rattle.ts_bound.specs.HullTables.{backward_table}
use Rattle.ts_glue.specs.declared.machine.Machine.{Machine}
use Rattle.ts_glue.specs.Machines.{pair_of, reverse_of}
use Rattle.ts_glue.specs.Pairs.{Pair}

pub split_is : (m : Machine) (b : Body) → reverse_of m ≡ Some b → IsSome (pair_of m)
split_is m b = go (pair_of m)
  where
    go : (o : Option Pair) → option_map (λ p. p.reverse) o ≡ Some b → IsSome o
    go None e = cc
    go (Some p) e = refl

pub back_rows : (o : Option Pair) (w : Option Range) (cells : List (List ℤ)) (rows : List (List Hull)) → IsSome o →
    IfSome (option_map (λ p. p.reverse) o) (λ b. rows ≡ backward_table b w cells) → AreBackRows o w cells rows
back_rows None w cells rows some is = cc
back_rows (Some p) w cells rows some is = is
