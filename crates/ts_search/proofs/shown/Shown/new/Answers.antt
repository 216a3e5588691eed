use Rattle.std.proofs.Common.{◌≡◌, Bool, true, false, sym, subst}
use Rattle.ts_automaton.specs.AutomatonRun.{AreCellValues}
use Rattle.ts_search.proofs.shown.Shown.new.Goals as goal

pub returns-clause-held : goal.returns-clause-held
returns-clause-held c = λ r. record {
  witness = c.in_ok-witness.ensures.witness;
  cells = subst AreCellValues (sym c.in_ok-witness.ensures.series) c.loop-domain.invariant.cells;
  spared = c.in_ok-spared.ensures.spared r;
  beside = c.in_ok-spared.ensures.beside _;
  alive = λ t. absurd (let z : ◌≡◌ {A = Bool} false true = t in cc);
}
