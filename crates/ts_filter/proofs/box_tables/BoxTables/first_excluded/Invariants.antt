use Rattle.ts_filter.specs.Question.{Excludes}
use Rattle.ts_filter.specs.KnownRows.{StillKnown}
use Rattle.ts_filter.specs.FirstCell.{NoneBefore}
use Rattle.ts_filter.proofs.box_tables.BoxTables.first_excluded.Given as goal

abbrev pub invariant-loop-p : goal.invariant-loop-p
invariant-loop-p l = StillKnown l.cells.present l.fn.self l.self × NoneBefore l.fn.self.machine (Excludes l.asked) l.cells.present l.p
