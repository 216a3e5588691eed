use Rattle.std.proofs.Common.{◌≡◌, map, take}
use Rattle.ts_bound.specs.TermSpans.{automata_of}
use Rattle.ts_filter.specs.Boxes.{Box}
use Rattle.ts_filter.specs.Tables.{AreRowsOfEach, machines_of}
use Rattle.ts_filter.proofs.all_tables.AllTables.new.Given as goal

abbrev pub invariant-loop-machine : goal.invariant-loop-machine
invariant-loop-machine l = record {
  machines : machines_of l.each.items ≡ map automata_of (take l.machine-index l.machines);
  known : (b : Box) → AreRowsOfEach b l.each.items;
}
