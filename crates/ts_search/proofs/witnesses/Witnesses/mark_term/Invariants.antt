use Rattle.std.proofs.Common.{◌≤◌}
use Rattle.ts_search.specs.Shown.{AreMarked, AreMet}
use Rattle.ts_search.proofs.witnesses.Witnesses.mark_term.Given as goal

abbrev pub invariant-loop-cell : goal.invariant-loop-cell
invariant-loop-cell l = record {
  marked : AreMarked l.problem l.self l.cells.present;
  met : AreMet l.problem l.self l.term;
  from : l.first ≤ l.cell;
}
