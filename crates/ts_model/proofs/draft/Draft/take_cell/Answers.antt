use Rattle.std.proofs.Common.{◌∙◌, ℤ, length, sym, subst, w64}
use Rattle.std.proofs.lemmas.Int.{to_z-of_z}
use Rattle.ts_model.proofs.DomainLines.{cell_line}
use Rattle.ts_model.specs.ModelParts.{IsPlace}
use Rattle.ts_model.specs.Views.{draft_parts}
use Rattle.ts_model.proofs.draft.Draft.take_cell.Goals as goal

pub returns-in_ok-domain-in-Some-clause-taken : goal.returns-in_ok-domain-in-Some-clause-taken
returns-in_ok-domain-in-Some-clause-taken c =
    let old = draft_parts c.args.self.now in
    let at = subst (λ (k : ℤ). IsPlace k (length old.cells) c.in-Some.place) (to_z-of_z w64 c.args.cell c.ranges.cell) c.in-Some.ensures.some in
    cell_line c.args.self.now.cells.limited old c.args.ranges.items.items c.in_ok-domain-in-Some.domain c.set_one.result _
    c.args.cell c.in-Some.place (sym c.has_cells.ensures ∙ c.if-not-has_cells.false) at c.in_ok-domain-in-Some.ensures c.set_one.ensures.set
