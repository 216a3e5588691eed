use Rattle.std.proofs.Common.{◌<◌, [], sym, subst, ap, ◌∙◌, set}
use Rattle.std.proofs.lemmas.List.{get_or_default}
use Rattle.ts_domain.specs.Trail.{before, BackFits, StepsFit}
use Rattle.ts_domain.proofs.Trails.{boxes_of, newest_cell, newest_back, fit_less, one_back, steps_left}
use Rattle.ts_domain.proofs.boxed.Boxed.undo_one.Goals as goal

pub index_mut-requires : goal.index_mut-requires
index_mut-requires c =
    subst (λ n. c.in-Some.step.cell < n) (sym c.self.inside.cells.ok.0)
    (newest_cell c.self.inside.trail.items c.pop.new.self.items c.in-Some.step c.self.inside.cells.items c.in-Some.ensures.items c.self.invariant)

pub bring_back-requires : goal.bring_back-requires
bring_back-requires c =
    let below = newest_cell c.self.inside.trail.items c.pop.new.self.items c.in-Some.step c.self.inside.cells.items c.in-Some.ensures.items c.self.invariant in
    subst (BackFits c.in-Some.step.back) (sym (c.index_mut.ensures.value ∙ get_or_default c.self.inside.cells.items c.in-Some.step.cell _ [] below))
    (newest_back c.self.inside.trail.items c.pop.new.self.items c.in-Some.step c.self.inside.cells.items c.in-Some.ensures.items c.self.invariant)

pub invariant_of-self : goal.invariant_of-self
invariant_of-self c =
    let below = newest_cell c.self.inside.trail.items c.pop.new.self.items c.in-Some.step c.self.inside.cells.items c.in-Some.ensures.items c.self.invariant in
    subst (λ d. StepsFit c.pop.new.self.items (set c.self.inside.cells.items c.in-Some.step.cell d))
    (sym (c.bring_back.ensures ∙ ap (before c.in-Some.step.back) (c.index_mut.ensures.value ∙
    get_or_default c.self.inside.cells.items c.in-Some.step.cell _ [] below)))
    (fit_less c.self.inside.trail.items c.pop.new.self.items c.in-Some.step c.self.inside.cells.items c.in-Some.ensures.items c.self.invariant)

pub returns-in-Some : goal.returns-in-Some
returns-in-Some c =
    let below = newest_cell c.self.inside.trail.items c.pop.new.self.items c.in-Some.step c.self.inside.cells.items c.in-Some.ensures.items c.self.invariant in
    ap (λ d. boxes_of c.pop.new.self.items (set c.self.inside.cells.items c.in-Some.step.cell d))
    (c.bring_back.ensures ∙ ap (before c.in-Some.step.back) (c.index_mut.ensures.value ∙
    get_or_default c.self.inside.cells.items c.in-Some.step.cell _ [] below)) ∙
    one_back c.self.inside.trail.items c.pop.new.self.items c.in-Some.step c.self.inside.cells.items _ c.self.view_is c.in-Some.ensures.items

pub returns-in_default : goal.returns-in_default
returns-in_default c =
    absurd (steps_left c.self.inside.trail.items c.self.inside.cells.items _ _ c.self.view_is c.self.inside.trail.ok.0 c.requires c.in_default.ensures.cases.0)
