use Rattle.ts_bound.proofs.PackedStacks.{all_same, same_hulls_on}
use Rattle.ts_bound.proofs.same_rows.are_same_hulls.Goals as goal

pub loop-i-preserved : goal.loop-i-preserved
loop-i-preserved g c =
    same_hulls_on g.row.N c.args.a.now c.args.b.now c.loop-i.i c.index-a-i.result c.index-b-i.result c.ne.result c.loop-i.invariant c.loop-i-test.true
    c.if-a-b.false c.index-a-i.is c.index-b-i.is c.ne.ensures c.if-ne.false

pub returns : goal.returns
returns g c = λ t. all_same c.args.a.now c.args.b.now c.loop-i.i c.loop-i.invariant c.loop-i-test.false c.if-a-b.false
