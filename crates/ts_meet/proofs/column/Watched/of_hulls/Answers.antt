use Rattle.std.proofs.Common.{◌≡◌, subst, arith, rules}
use Rattle.ts_meet.specs.Peaks.{AreWatched, IsKnown}
use Rattle.ts_meet.proofs.Watched.{holds_more, hull_there, packed_there}
use Rattle.ts_meet.proofs.column.Watched.of_hulls.Goals as goal

pub loop-i-init : goal.loop-i-init
loop-i-init g c i before = absurd (omega (arith, before))

pub with_hull-all-requires : goal.with_hull-all-requires
with_hull-all-requires g c =
    let there = packed_there g.row.N c.args.from c.args.count c.loop-i.i c.args.hulls.now _ c.requires.hulls c.loop-i-test.true c.index-hulls-from.is in
    (search rules, (c.requires.registers, there))

pub loop-i-preserved : goal.loop-i-preserved
loop-i-preserved g c =
    let n = g.row.N in let i = c.loop-i.i in
    holds_more n (IsKnown c.loop-i.all) (IsKnown c.with_hull-all.result) c.args.hulls.now c.args.from i c.index-hulls-from.result
    c.with_hull-all.ensures.kept c.with_hull-all.ensures.added
    (hull_there n c.args.from c.args.count i c.args.hulls.now _ c.requires.hulls c.loop-i-test.true c.index-hulls-from.is) c.loop-i.invariant

pub returns : goal.returns
returns g c =
    let e : c.loop-i.i ≡ c.args.count = omega (arith, c.loop-i-test.false, c.loop-i.auto.i-end) in
    subst (AreWatched g.row.N c.loop-i.all c.args.hulls.now c.args.from) e c.loop-i.invariant
