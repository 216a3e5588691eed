use Rattle.std.proofs.Common.{rules, SFits, ◌≡◌, sym, subst, get_or, w64, to_z, of_z}
use Rattle.std.proofs.lemmas.Int.{to_z-of_z}
use Rattle.ts_witness.proofs.Runs.{one_more}
use Rattle.ts_witness.proofs.run.Run.know_next.Goals as goal

pub returns-clause-runs : goal.returns-clause-runs
returns-clause-runs c =
    let r = c.args.self.now in
    let fits : SFits w64 c.index.result.now = search rules in
    one_more c.args.a.now r.cells.items r.states.items r.known (to_z w64 (of_z w64 c.index.result.now)) c.arrived-at.result c.requires.runs c.requires.left
    (subst (λ z. z ≡ get_or r.cells.items r.known z) (sym (to_z-of_z w64 c.index.result.now fits)) c.index.ensures)
    c.arrived-at.ensures.value c.arrived-at.ensures.stands
