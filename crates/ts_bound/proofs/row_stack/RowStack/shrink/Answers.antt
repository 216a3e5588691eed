use Rattle.std.proofs.Common.{inr, set, arith}
use Rattle.ts_bound.proofs.HeldRows.{held_invariant, held_less, row_inside, row_laid}
use Rattle.ts_bound.proofs.LaidRows.{put_within}
use Rattle.ts_bound.proofs.row_stack.RowStack.shrink.Goals as goal

pub returns : goal.returns
returns c =
    let p = c.self.inside.planned in let rows = c.self.inside.rows.items in let k = c.self.inside.known in
    held_less p rows k c.self.inside.from c.greater-self-inside.result c.index_mut.result.now c.shrink.new.self c.args.self.now c.self.view_is
    (row_inside p rows k c.self.inside.from c.args.self.now c.self.view_is c.self.invariant.0 c.requires) c.self.invariant.1 c.index_mut.ensures.value
    c.greater-self-inside.ensures.first c.greater-self-inside.ensures.second c.args.gone c.args.before.now c.shrink.ensures

pub invariant_of-self : goal.invariant_of-self
invariant_of-self c =
    let p = c.self.inside.planned in let rows = c.self.inside.rows.items in let k = c.self.inside.known in let from = c.self.inside.from in
    let row = c.index_mut.result.now in let left = c.shrink.new.self in let to = c.greater-self-inside.result in let n = c.greater-self-inside-2.result in
    let inside = row_inside p rows k from c.args.self.now c.self.view_is c.self.invariant.0 c.requires in
    let laid = row_laid p rows k from to row left c.args.self.now c.self.view_is inside c.self.invariant.1 c.index_mut.ensures.value
    c.greater-self-inside.ensures.first c.greater-self-inside.ensures.second in
    let more = c.greater-self-inside-2.ensures.second in
    held_invariant p rows (set rows k left) k from left c.self.invariant.0 (put_within rows k left inside) c.self.inside.kept_to n c.self.invariant.1
    (c.shrink.ensures.laid p laid) c.self.invariant.2 c.self.invariant.3 c.greater-self-inside-2.ensures.first c.greater-self-inside-2.ensures.one
    (inr (omega (arith, more)))
