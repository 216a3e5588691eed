use Rattle.std.proofs.Common.{◌-◌, [], sym, ap, ◌∙◌, refl, subst}
use Rattle.std.proofs.lemmas.List.{get_or_default}
use Rattle.ts_domain.specs.declared.boxed.Back.TheVariants.{Whole}
use Rattle.ts_domain.specs.Kept.{values_kept}
use Rattle.ts_domain.specs.Values.{IsDomain}
use Rattle.ts_domain.proofs.Trails.{cells_fit, fit_more, changed, place_below, leads_whole}
use Rattle.ts_domain.proofs.boxed.Boxed.narrow.Goals as goal

pub invariant_of-self-2 : goal.invariant_of-self-2
invariant_of-self-2 c =
    fit_more c.self.inside.trail.items _ c.push_reserved.new.self.items c.self.inside.cells.items
    (record { cell = c.args.k - 1; back = Whole c.replace-before.result }) c.replace-before.new.dest c.self.invariant
    c.in_ok-reserve.ensures.items c.push_reserved.ensures.items
    (leads_whole c.self.inside.cells.items (c.args.k - 1) c.replace-before.result _ c.replace-before.new.dest
    (cells_fit c.self.inside.trail.items c.self.inside.cells.items c.self.invariant).1
    (place_below c.self.inside.trail.items c.self.inside.cells.items _ _ c.self.view_is c.requires.cell)
    c.index_mut.ensures.value c.replace-before.ensures.value (subst IsDomain (sym c.replace-before.ensures.after) c.in_ok-left.ensures.domain))

pub returns-clause-ok : goal.returns-clause-ok
returns-clause-ok c =
    let below = place_below c.self.inside.trail.items c.self.inside.cells.items _ _ c.self.view_is c.requires.cell in
    changed c.self.inside.trail.items _ c.push_reserved.new.self.items c.self.inside.cells.items _ c.args.k
    (record { cell = c.args.k - 1; back = Whole c.replace-before.result }) c.replace-before.new.dest (values_kept c.args.keep) c.self.view_is refl
    c.in_ok-reserve.ensures.items c.push_reserved.ensures.items
    (leads_whole c.self.inside.cells.items (c.args.k - 1) c.replace-before.result _ c.replace-before.new.dest
    (cells_fit c.self.inside.trail.items c.self.inside.cells.items c.self.invariant).1 below
    c.index_mut.ensures.value c.replace-before.ensures.value (subst IsDomain (sym c.replace-before.ensures.after) c.in_ok-left.ensures.domain))
    (c.replace-before.ensures.after ∙ c.in_ok-left.ensures.kept ∙ ap (values_kept c.args.keep) (c.index.ensures ∙
    get_or_default c.self.inside.cells.items (c.args.k - 1) _ [] below))
