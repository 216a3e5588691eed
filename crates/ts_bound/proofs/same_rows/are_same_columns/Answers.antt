use Rattle.std.proofs.Common.{◌<◌, ◌∙◌, sym, [], length, arith}
use Rattle.ts_bound.proofs.PackedStacks.{all_same, same_on}
use Rattle.ts_bound.proofs.same_rows.are_same_columns.Goals as goal

pub loop-q-preserved : goal.loop-q-preserved
loop-q-preserved g c =
    let below : c.loop-q.q < length c.args.a.now = omega (arith, c.requires.first, c.loop-q-test.true) in
    same_on c.args.a.now c.args.b.now c.loop-q.q [] [] c.loop-q.invariant below (c.requires.first ∙ sym c.requires.second)
    (sym c.column.ensures ∙ c.are_same_hulls.ensures c.if-not-are_same_hulls.false ∙ c.column-in-loop-q.ensures)

pub returns : goal.returns
returns g c = λ t.
    all_same c.args.a.now c.args.b.now c.loop-q.q c.loop-q.invariant (omega (arith, c.requires.first, c.loop-q-test.false))
    (c.requires.first ∙ sym c.requires.second)
