use Rattle.ts_bound.specs.HullTables.{only_looked}
use Rattle.ts_bound.proofs.Emptied.{Begun, sizes}
use Rattle.ts_bound.proofs.table.HullTable.empty.Given as goal

abbrev pub invariant-loop-k : goal.invariant-loop-k
invariant-loop-k l = Begun l.starts.items l.total (sizes l.states (only_looked l.window l.cells.present)) l.k
