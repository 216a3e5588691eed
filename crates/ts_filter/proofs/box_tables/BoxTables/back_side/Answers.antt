use Rattle.std.proofs.Common.{ap, ◌∙◌, ◌<◌, length, sym, subst, [], get_or, ◌-◌}
use Rattle.ts_bound.specs.BoxRows.{IsPlannedBack}
use Rattle.ts_filter.specs.KnownRows.{HasJoints, KnownRows}
use Rattle.ts_filter.proofs.TableSteps.{back_side_of, behind_inside}
use Rattle.ts_filter.proofs.box_tables.BoxTables.back_side.Goals as goal

pub row-requires : goal.row-requires
row-requires c =
    let t = c.args.self.now in
    subst (λ (u : KnownRows). c.args.last - c.args.k < length u.behind) (sym c.self.view_is)
    (subst (λ n. n - c.args.k < length t.behind) (sym c.requires.last)
    (behind_inside c.args.cells.now.present t c.args.k c.requires.hulls c.requires.known c.requires.there (λ e. c.if-k-last.false (e ∙ sym c.requires.last))))

pub returns-clause-side : goal.returns-clause-side
returns-clause-side c =
    let t = c.args.self.now in let p = c.self.inside.behind.planned in
    let joints = subst (λ (u : KnownRows). HasJoints u.machine.pair c.self.inside.joints) c.self.view_is c.self.invariant.0.meets in
    back_side_of c.args.cells.now.present t c.args.k c.requires.hulls c.requires.known c.requires.there p _
    (c.self.invariant.0.form ∙ ap (λ (u : KnownRows). u.form) c.self.view_is)
    (subst (λ (u : KnownRows). IsPlannedBack u.machine.pair p) c.self.view_is c.self.invariant.0.reverse)
    (subst (HasJoints t.machine.pair) c.in-Some.is joints) c.row.ensures.states
    (λ e. c.if-k-last.false (e ∙ sym c.requires.last))
    (c.row.ensures.hulls ∙ ap (λ (u : KnownRows). get_or u.behind (c.args.last - c.args.k) []) c.self.view_is
    ∙ ap (λ n. get_or t.behind (n - c.args.k) []) c.requires.last)
