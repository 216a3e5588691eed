use Rattle.std.proofs.Common.{sym, subst}
use Rattle.ts_automaton.specs.AutomatonRun.{AreCellValues}
use Rattle.ts_bound.specs.TermSpans.{automata_of}
use Rattle.ts_witness.specs.KnownValues.{AreBeside}
use Rattle.ts_witness.specs.Laws.{IsAlive}
use Rattle.ts_search.proofs.shown.Shown.spares_up_to.Goals as goal

pub returns-clause-held : goal.returns-clause-held
returns-clause-held c =
    let s = c.args.self.now in
    let r = c.args.r.now in
    let same = sym c.keeps_up_to.ensures.series in
    record {
      witness = c.keeps_up_to.ensures.witness;
      cells = subst AreCellValues same c.requires.held.cells;
      spared = c.keeps_up_to.ensures.spared;
      beside = subst (λ y. AreBeside s.machine.now y c.keeps_up_to.new.self) same c.keeps_up_to.ensures.beside;
      alive = λ t. subst (IsAlive (automata_of s.machine.now) r) same (c.requires.held.alive t);
    }
