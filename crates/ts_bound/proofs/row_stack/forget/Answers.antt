use Rattle.std.proofs.Common.{refl, arith}
use Rattle.ts_bound.proofs.HeldRows.{forgotten_long, none_forgotten, one_forgotten}
use Rattle.ts_bound.proofs.row_stack.forget.Goals as goal

pub loop-i-init : goal.loop-i-init
loop-i-init c = none_forgotten c.args.from c.args.rows.now.items

pub loop-i-preserved : goal.loop-i-preserved
loop-i-preserved c =
    let old = c.args.rows.now.items in let mid = c.loop-i.rows.items in let f = c.loop-i.invariant in
    let lt = c.loop-i-test.true in let inside = c.requires.inside in let long = forgotten_long c.args.from c.loop-i.i old mid f in
    one_forgotten c.args.from c.loop-i.i old mid c.index_mut.result.now _ f c.loop-i.auto.i (omega (arith, lt, inside, long)) c.index_mut.ensures.value
    refl refl refl refl c.clear.ensures.items
