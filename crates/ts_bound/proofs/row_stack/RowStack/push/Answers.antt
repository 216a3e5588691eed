use Rattle.std.proofs.Common.{◌+◌, inl, refl, subst, sym, arith}
use Rattle.ts_bound.specs.RowStacks.{IsLaid, IsOneMore, Stack, hulls_in, kept_in, shown}
use Rattle.ts_bound.proofs.HeldRows.{held, held_invariant, held_more}
use Rattle.ts_bound.proofs.row_stack.RowStack.push.Goals as goal

pub returns-clause-ok : goal.returns-clause-ok
returns-clause-ok c =
    let p = c.self.inside.planned in let rows = c.self.inside.rows.items in let k = c.self.inside.known in let row = c.args.row in
    subst
    (λ (s : Stack). IsOneMore (hulls_in s.planned.states (shown row)) (kept_in s.planned.states row) c.args.self.now
    (held p c.put.new.rows.items (k + 1) c.greater-from.result)) c.self.view_is
    (held_more p rows c.put.new.rows.items k c.self.inside.from row c.self.invariant.0 c.in_ok-put.ensures.ok c.greater-from.result c.args.self.now
    c.self.view_is c.greater-from.ensures.first c.greater-from.ensures.second)

pub invariant_of-self-2 : goal.invariant_of-self-2
invariant_of-self-2 c =
    let p = c.self.inside.planned in let n = c.self.inside.kept_to in
    held_invariant p c.self.inside.rows.items c.put.new.rows.items c.self.inside.known c.self.inside.from c.args.row c.self.invariant.0
    c.in_ok-put.ensures.ok n n c.self.invariant.1 (subst (λ (s : Stack). IsLaid s.planned c.args.row) (sym c.self.view_is) c.requires.laid)
    c.self.invariant.2 c.self.invariant.3 (omega arith) (inl refl) (inl c.requires.none)
