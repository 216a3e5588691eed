use Rattle.std.proofs.Common.{rules, SFits, subst, ◌∙◌, w64}
use Rattle.std.proofs.lemmas.Int.{to_z-of_z}
use Rattle.ts_witness.specs.Runs.{IsSide}
use Rattle.ts_witness.proofs.Runs.{first_side, same_side}
use Rattle.ts_witness.proofs.run.Run.has_beside.Goals as goal

pub returns-then-i-eq0-clause-side : goal.returns-then-i-eq0-clause-side
returns-then-i-eq0-clause-side c = λ t. first_side c.args.a.now c.args.self.now.cells.items c.args.i c.args.side.now c.if-i-eq0.true

pub returns-clause-side : goal.returns-clause-side
returns-clause-side c =
    let r = c.know.new.self in
    let raw = c.index-2.result.now in
    let fits : SFits w64 raw = search rules in
    λ t. subst (λ xs. IsSide c.args.a.now xs c.args.i c.args.side.now) c.know.ensures.cells
    (same_side c.args.a.now r.cells.items r.states.items r.known c.args.i c.args.side.now c.index.result.now raw c.know.ensures.runs c.if-i-eq0.false
    c.know.ensures.known (c.is.ensures.state t) (c.is.ensures.cell t ∙ to_z-of_z w64 raw fits) c.index.ensures c.index-2.ensures)
