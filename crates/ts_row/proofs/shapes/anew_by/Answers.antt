use Rattle.std.proofs.Common.{◌∙◌, sym, subst}
use Rattle.ts_row.specs.Plans.{anew_fronts, held_of}
use Rattle.ts_row.specs.Takings.{MovesAs}
use Rattle.ts_row.proofs.shapes.anew_by.Goals as goal

pub returns-then-is_wide-clause-taken : goal.returns-then-is_wide-clause-taken
returns-then-is_wide-clause-taken g c =
    λ is. subst (λ w. MovesAs g.row.N c.args.t.now c.args.on
    (anew_fronts (g.O.Operator.op c.args.by) (g.U.Front.formula c.args.range_start) (held_of w) (g.V.Front.formula c.args.start)) c.args.next.now
    c.anew_as.new.next)
    (sym c.if-is_wide.true ∙ c.is_wide.ensures) (c.anew_as.ensures.taken is)

pub returns-else-is_wide-clause-taken : goal.returns-else-is_wide-clause-taken
returns-else-is_wide-clause-taken g c =
    λ is. subst (λ w. MovesAs g.row.N c.args.t.now c.args.on
    (anew_fronts (g.O.Operator.op c.args.by) (g.U.Front.formula c.args.range_start) (held_of w) (g.V.Front.formula c.args.start)) c.args.next.now
    c.anew_as-else-is_wide.new.next)
    (sym c.if-is_wide.false ∙ c.is_wide.ensures) (c.anew_as-else-is_wide.ensures.taken is)
