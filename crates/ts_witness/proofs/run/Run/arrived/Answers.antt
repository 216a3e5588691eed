use Rattle.std.proofs.Common.{rules, ◌≡◌, ◌-◌, sym, subst, get_or, ◌∙◌, ap, w64, to_z, of_z}
use Rattle.std.proofs.lemmas.Int.{to_z-of_z}
use Rattle.std.proofs.Common.{SFits}
use Rattle.ts_automaton.specs.AutomatonRun.{standing_of, step_of}
use Rattle.ts_witness.proofs.Runs.{moved_at, stands_at}
use Rattle.ts_witness.proofs.run.Run.arrived.Goals as goal

pub step-requires : goal.step-requires
step-requires c =
    let r = c.args.self.now in
    stands_at c.args.a.now r.cells.items r.states.items r.known c.args.i c.requires.runs c.if-i-eq0.false c.requires.known c.index.result.now
    c.index.ensures

pub returns-clause-value : goal.returns-clause-value
returns-clause-value c =
    let r = c.args.self.now in
    let fits : SFits w64 c.index-2.result.now = search rules in
    let v_is = to_z-of_z w64 c.args.v c.ranges.v in
    c.step.ensures.value
    ∙ ap (λ z. step_of c.args.a.now (standing_of c.index.result.now) (to_z w64 (of_z w64 c.index-2.result.now)) z) v_is
    ∙ moved_at c.args.a.now r.cells.items r.states.items r.known c.args.i c.requires.runs c.if-i-eq0.false c.requires.known c.index.result.now
    c.index.ensures (to_z w64 (of_z w64 c.index-2.result.now)) c.args.v
    (subst (λ z. z ≡ get_or r.cells.items (c.args.i - 1) z) (sym (to_z-of_z w64 c.index-2.result.now fits)) c.index-2.ensures)
