use Rattle.ts_bound.proofs.HeldRows.{forgotten_invariant}
use Rattle.ts_bound.proofs.row_stack.RowStack.forget_above.Goals as goal

pub invariant_of-self : goal.invariant_of-self
invariant_of-self c =
    forgotten_invariant c.self.inside.planned c.self.inside.rows.items c.forget.new.rows.items c.self.inside.known c.self.inside.from c.args.count
    c.self.inside.kept_to c.forget.ensures c.self.invariant.3 c.self.invariant.0 c.self.invariant.1 c.self.invariant.2 c.if-count-self.true
