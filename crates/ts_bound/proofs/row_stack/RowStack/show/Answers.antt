use Rattle.std.proofs.Common.{◌<◌, length, inl, inr, refl, set, arith}
use Rattle.ts_bound.proofs.HeldRows.{held_invariant, held_shown, laid_shows, row_laid}
use Rattle.ts_bound.proofs.LaidRows.{put_within}
use Rattle.ts_bound.proofs.row_stack.RowStack.show.Goals as goal

pub returns-then-shows : goal.returns-then-shows
returns-then-shows c =
    let p = c.self.inside.planned in let rows = c.self.inside.rows.items in let k = c.self.inside.known in
    let lt = c.if-self.true in let within = c.self.invariant.2 in
    inr
    (held_shown p rows k c.self.inside.from c.greater-self-inside.result c.index_mut.result.now c.shows.new.row c.args.self.now c.self.view_is
    (omega (arith, lt, within)) c.self.invariant.1 c.index_mut.ensures.value c.greater-self-inside.ensures.first c.greater-self-inside.ensures.second
    c.args.now.now (c.shows.ensures.yes c.if-shows.true))

pub invariant_of-self : goal.invariant_of-self
invariant_of-self c =
    let p = c.self.inside.planned in let rows = c.self.inside.rows.items in let k = c.self.inside.known in let from = c.self.inside.from in
    let row = c.index_mut.result.now in let left = c.shows.new.row in let n = c.self.inside.kept_to in
    let lt = c.if-self.true in let within = c.self.invariant.2 in
    let inside : k < length rows = omega (arith, lt, within) in
    let laid = row_laid p rows k from c.greater-self-inside.result row left c.args.self.now c.self.view_is inside c.self.invariant.1
    c.index_mut.ensures.value c.greater-self-inside.ensures.first c.greater-self-inside.ensures.second in
    held_invariant p rows (set rows k left) k from left c.self.invariant.0 (put_within rows k left inside) n n c.self.invariant.1
    (laid_shows p c.args.now.now row left laid (c.shows.ensures.yes c.if-shows.true)) c.self.invariant.2 c.self.invariant.3 (omega arith) (inl refl)
    (inr lt)
