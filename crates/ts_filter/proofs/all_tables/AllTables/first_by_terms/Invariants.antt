use Rattle.std.proofs.Common.{◌≡◌}
use Rattle.ts_filter.specs.Drops.{IsFirstOf}
use Rattle.ts_filter.proofs.DropLaws.{DropBelow}
use Rattle.ts_filter.proofs.all_tables.AllTables.first_by_terms.Given as goal

abbrev pub invariant-loop-term : goal.invariant-loop-term
invariant-loop-term g l = record {
  same : l.self ≡ l.fn.self;
  first : IsFirstOf (DropBelow l.requirements l.fn.self.machines l.cells.present l.term) l.first;
}
