use Rattle.std.proofs.Common.{rules, ◌≡◌, ◌-◌, set}
use Rattle.ts_automaton.specs.AutomatonRun.{answer}
use Rattle.ts_bound.specs.TermSpans.{automata_of}
use Rattle.ts_model.specs.Compares.{compares}
use Rattle.ts_witness.specs.Witnesses.{series_of}
use Rattle.ts_witness.proofs.Alive.{told_kept}
use Rattle.ts_witness.proofs.witness.Witness.keeps.Goals as goal

pub returns-clause-kept : goal.returns-clause-kept
returns-clause-kept c =
    let a = automata_of c.args.m.now in
    let r = c.args.r.now in
    let x = series_of c.args.self.now in
    let told : c.satisfies.result ≡ compares r.op r.bound (answer a.forward (set x (c.args.k - 1) c.args.v)) = search rules in
    told_kept a r x c.args.k c.args.v c.satisfies.result told
