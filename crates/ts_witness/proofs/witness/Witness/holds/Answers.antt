use Rattle.std.proofs.Common.{rules, ◌≡◌}
use Rattle.ts_automaton.specs.AutomatonRun.{answer}
use Rattle.ts_bound.specs.TermSpans.{automata_of}
use Rattle.ts_model.specs.Compares.{compares}
use Rattle.ts_witness.specs.Witnesses.{series_of}
use Rattle.ts_witness.proofs.Alive.{told_alive}
use Rattle.ts_witness.proofs.witness.Witness.holds.Goals as goal

pub returns-clause-alive : goal.returns-clause-alive
returns-clause-alive c =
    let a = automata_of c.args.m.now in
    let r = c.args.r.now in
    let x = series_of c.args.self.now in
    let told : c.satisfies.result ≡ compares r.op r.bound (answer a.forward x) = search rules in
    told_alive a r x c.satisfies.result told
