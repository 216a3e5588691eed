use Rattle.std.proofs.Common.{sym, subst}
use Rattle.ts_automaton.specs.AutomatonRun.{AreCellValues}
use Rattle.ts_bound.specs.TermSpans.{automata_of}
use Rattle.ts_witness.specs.KnownValues.{AreBeside}
use Rattle.ts_witness.specs.Laws.{IsAlive}
use Rattle.ts_search.proofs.shown.Shown.judge.Goals as goal

pub returns-then-not-self-clause-held : goal.returns-then-not-self-clause-held
returns-then-not-self-clause-held c =
    let s = c.args.self.now in
    record {
      witness = c.holds-self.ensures.witness;
      cells = subst AreCellValues (sym c.holds-self.ensures.series) c.requires.held.cells;
      spared = c.requires.held.spared;
      beside = subst (λ y. AreBeside s.machine.now y s.spared) (sym c.holds-self.ensures.series) c.requires.held.beside;
      alive = λ t. subst (IsAlive (automata_of s.machine.now) c.args.r.now) (sym c.holds-self.ensures.series) (c.holds-self.ensures.alive t);
    }
