use Rattle.std.proofs.Common.{◌∙◌, sym}
use Rattle.ts_model.proofs.DomainLines.{domain_line}
use Rattle.ts_model.specs.Views.{draft_parts}
use Rattle.ts_model.proofs.draft.Draft.take_domain.Goals as goal

pub returns-clause-taken : goal.returns-clause-taken
returns-clause-taken c =
    domain_line c.args.self.now.cells.limited (draft_parts c.args.self.now) c.args.ranges.items.items c.in_ok-domain.domain c.set_all.result _
    (sym c.has_cells.ensures ∙ c.if-not-has_cells.false) c.in_ok-domain.ensures c.set_all.ensures.set
