use Rattle.std.proofs.Common.{sym, subst}
use Rattle.ts_bound.specs.AnyRows.{viewed}
use Rattle.ts_bound.specs.RowStacks.{HasStates, Stack}
use Rattle.ts_bound.proofs.HeldRows.{known_laid, shown_laid}
use Rattle.ts_bound.proofs.row_stack.RowStack.row.Goals as goal

pub returns-clause-states : goal.returns-clause-states
returns-clause-states c =
    let p = c.self.inside.planned in let row = c.index.result.now in
    let laid = known_laid p c.self.inside.rows.items c.self.inside.known c.self.inside.from c.args.i row c.args.self.now c.self.view_is c.self.invariant.0
    c.self.invariant.1 c.requires c.index.ensures in
    subst (λ (s : Stack). HasStates s.planned (viewed c.lend.result)) c.self.view_is
    (subst (HasStates p) (sym c.lend.ensures) (shown_laid p row laid).0)
