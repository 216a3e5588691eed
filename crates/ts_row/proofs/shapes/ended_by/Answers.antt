use Rattle.std.proofs.Common.{◌∙◌, sym, subst}
use Rattle.ts_automaton.specs.Formula.{Join}
use Rattle.ts_row.specs.Plans.{ended_fronts, less_of}
use Rattle.ts_row.specs.Takings.{MovesAs}
use Rattle.ts_row.proofs.shapes.ended_by.Goals as goal

pub returns-then-is_wide-clause-taken : goal.returns-then-is_wide-clause-taken
returns-then-is_wide-clause-taken g c =
    λ is. subst (λ w. MovesAs g.row.N c.args.t.now c.args.on
    (ended_fronts (g.O.Operator.op c.args.by) (less_of w (g.X.Front.formula c.args.found) (g.Y.Front.formula c.args.low)) (g.V.Front.formula c.args.start))
    c.args.next.now c.ended_as.new.next)
    (sym c.if-is_wide.true ∙ c.is_wide.ensures)
    (subst (λ o. MovesAs g.row.N c.args.t.now c.args.on
    (ended_fronts (g.O.Operator.op c.args.by) (Join o (g.X.Front.formula c.args.found) (g.Y.Front.formula c.args.low)) (g.V.Front.formula c.args.start))
    c.args.next.now c.ended_as.new.next) c.requires.difference (c.ended_as.ensures.taken is))

pub returns-else-is_wide-clause-taken : goal.returns-else-is_wide-clause-taken
returns-else-is_wide-clause-taken g c =
    λ is. subst (λ w. MovesAs g.row.N c.args.t.now c.args.on
    (ended_fronts (g.O.Operator.op c.args.by) (less_of w (g.X.Front.formula c.args.found) (g.Y.Front.formula c.args.low)) (g.V.Front.formula c.args.start))
    c.args.next.now c.ended_as-else-is_wide.new.next)
    (sym c.if-is_wide.false ∙ c.is_wide.ensures) (c.ended_as-else-is_wide.ensures.taken is)
