use Rattle.std.proofs.Common.{◌≡◌, get_or, sym, ◌∙◌, arith}
use Rattle.ts_hull.specs.Hulls.{none}
use Rattle.ts_row.specs.Rows.{lanes_of, nothing}
use Rattle.ts_row.proofs.Reached.{hull_nothing}
use Rattle.ts_row.proofs.state_cover.is_reached.Goals as goal
use Rattle.ts_sweep.specs.Columns.{hull_at}
use Rattle.ts_sweep.proofs.PairLaws.{so_far}

pub loop-i-preserved : goal.loop-i-preserved
loop-i-preserved g c =
    let n = g.row.N in
    let test = c.loop-i-test.true in
    so_far (λ k. hull_at (lanes_of n) (nothing n) c.args.column.now k ≡ none) c.loop-i.i c.loop-i.invariant
    (hull_nothing n (get_or c.args.column.now c.loop-i.i (nothing n)) c.requires.registers (c.requires.column.1 c.loop-i.i (omega (arith, test)))
    (sym c.holds_at.ensures ∙ c.if-holds_at.false))
