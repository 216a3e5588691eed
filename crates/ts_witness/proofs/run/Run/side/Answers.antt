use Rattle.std.proofs.Common.{rules, SFits, ◌≡◌, ◌-◌, sym, subst, get_or, w64, to_z, of_z}
use Rattle.std.proofs.lemmas.Int.{to_z-of_z}
use Rattle.ts_witness.specs.Runs.{IsSide}
use Rattle.ts_witness.specs.declared.run.Side.{Side}
use Rattle.ts_witness.proofs.Runs.{next_side}
use Rattle.ts_witness.proofs.run.Run.side.Goals as goal

pub returns-clause-side : goal.returns-clause-side
returns-clause-side c =
    let r = c.know.new.self in
    let raw = c.index-2.result.now in
    let fits : SFits w64 raw = search rules in
    let s : Side = record { at = c.index.result.now; cell = to_z w64 (of_z w64 raw) } in
    subst (λ xs. IsSide c.args.a.now xs c.args.i s) c.know.ensures.cells
    (next_side c.args.a.now r.cells.items r.states.items r.known c.args.i s c.know.ensures.runs c.if-i-eq0.false c.know.ensures.known c.index.ensures
    (subst (λ z. z ≡ get_or r.cells.items (c.args.i - 1) z) (sym (to_z-of_z w64 raw fits)) c.index-2.ensures))
