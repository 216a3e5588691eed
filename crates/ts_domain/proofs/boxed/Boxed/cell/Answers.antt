use Rattle.std.proofs.Common.{◌-◌, [], get_or, ap, ◌∙◌}
use Rattle.std.proofs.lemmas.List.{get_or_default}
use Rattle.ts_domain.proofs.Trails.{place_below}
use Rattle.ts_domain.proofs.boxed.Boxed.cell.Goals as goal

pub returns : goal.returns
returns c =
    c.index.ensures ∙
    get_or_default c.self.inside.cells.items (c.args.k - 1) _ []
    (place_below c.self.inside.trail.items c.self.inside.cells.items _ _ c.self.view_is c.requires) ∙
    ap (λ b. get_or b.present (c.args.k - 1) []) c.self.view_is
