use Rattle.std.proofs.Common.{sym, subst, arith, rules}
use Rattle.ts_row.specs.Rows.{lanes_of}
use Rattle.ts_sweep.specs.Packed.{IsPacked}
use Rattle.ts_sweep.specs.Sides.{lane_count, sides}
use Rattle.ts_meet.specs.Ends.{needed_ends}
use Rattle.ts_meet.specs.Settled.{AlwaysReaches, with_hull, with_hull_at}
use Rattle.ts_meet.proofs.Asking.{none_between, one_more, read_there}
use Rattle.ts_meet.proofs.settled.settled_apart.Goals as goal

pub loop-i-init : goal.loop-i-init
loop-i-init g c p q r h apart = none_between _ c.args.from

pub settles-requires : goal.settles-requires
settles-requires g c =
    let n = g.row.N in let i = c.loop-i.i in let given = c.requires in
    let left = c.args.left.now in let right = c.args.right.now in let before = c.loop-i-test.true in
    let here = subst (λ z. IsPacked (lane_count n) (lanes_of n z))
    (sym (read_there n left i _ c.index-left-i.is (let e = given.left.0 in omega (arith, e, before)))) (given.left.1 i before) in
    let there = subst (λ z. IsPacked (lane_count n) (lanes_of n z))
    (sym (read_there n right i _ c.index-right-i.is (let e = given.right.0 in omega (arith, e, before)))) (given.right.1 i before) in
    (search rules, (given.registers, (given.lanes, (given.alone, (given.operator, (given.wide, (here, there)))))))

pub loop-i-preserved : goal.loop-i-preserved
loop-i-preserved g c p q r h apart =
    let left = c.args.left.now in let right = c.args.right.now in let i = c.loop-i.i in
    let reaches = AlwaysReaches (sides g.row.N) (needed_ends c.args.needed) p in
    let told = c.settles.ensures c.if-not-settles.false p q r h apart in
    one_more _ c.args.from i (c.loop-i.invariant p q r h apart)
    (subst (λ z. reaches (with_hull_at g.row.N q left i) (with_hull g.row.N r z) c.args.cells)
    (read_there g.row.N right i _ c.index-right-i.is (let e = c.requires.right.0 in let t = c.loop-i-test.true in omega (arith, e, t)))
    (subst (λ z. reaches (with_hull g.row.N q z) (with_hull g.row.N r c.index-right-i.result) c.args.cells)
    (read_there g.row.N left i _ c.index-left-i.is (let e = c.requires.left.0 in let t = c.loop-i-test.true in omega (arith, e, t))) told))
