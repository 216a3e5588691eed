-- What contracts see of a machine: the body of its forward automaton, the pair that it was made of, if it can be
-- split, and its window, if it looks at some of the cells alone.
use Rattle.std.specs.Prelude.{Option, option_map}
use Rattle.ts_base.specs.declared.range.Range.{Range}
use Rattle.ts_automaton.specs.Body.{Body}
use Rattle.ts_glue.specs.declared.machine.Machine.{Machine}
use Rattle.ts_glue.specs.Pairs.{Table, table_view, Pair, pair}

abbrev pub forward_of : Machine → Body
forward_of m = m.forward

abbrev pub pair_of : Machine → Option Pair
pair_of m = option_map (λ h. pair m.forward h.reverse (table_view h.table)) m.half

abbrev pub reverse_of : Machine → Option Body
reverse_of m = option_map (λ p. p.reverse) (pair_of m)

abbrev pub table_of : Machine → Option Table
table_of m = option_map (λ p. p.table) (pair_of m)

abbrev pub window_of : Machine → Option Range
window_of m = m.window
