use Rattle.std.proofs.Common.{sym, ap, ◌∙◌, length}
use Rattle.ts_domain.proofs.Trails.{length-earlier}
use Rattle.ts_domain.proofs.boxed.Boxed.mark.Goals as goal

pub returns : goal.returns
returns c = c.len.ensures ∙ c.self.inside.trail.ok.0 ∙ sym (length-earlier c.self.inside.trail.items c.self.inside.cells.items)
    ∙ ap (λ b. length b.earlier) c.self.view_is
