use Rattle.std.proofs.Common.{◌≡◌, ◌++◌, length, map}
use Rattle.std.specs.Vec.Iter.{into_iter_items, into_iter_len}
use Rattle.ts_bound.specs.TermSpans.{automata_of}
use Rattle.ts_filter.specs.Boxes.{Box}
use Rattle.ts_filter.specs.Tables.{AreRowsOfEach, machines_of}
use Rattle.ts_filter.proofs.all_tables.AllTables.owning.Given as goal

abbrev pub invariant-loop-machine : goal.invariant-loop-machine
invariant-loop-machine l = record {
  machines : machines_of l.each.items ++ map automata_of (into_iter_items l.machine-iterator)
      ≡ map automata_of (into_iter_items l.initial.machine-iterator);
  known : (b : Box) → AreRowsOfEach b l.each.items;
  count : into_iter_len l.machine-iterator ≡ length (into_iter_items l.machine-iterator);
}
