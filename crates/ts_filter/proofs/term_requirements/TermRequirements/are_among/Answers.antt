use Rattle.std.proofs.Common.{arith}
use Rattle.ts_filter.proofs.Quiet.{all_among, none_missing_first, one_more_among}
use Rattle.ts_filter.proofs.term_requirements.TermRequirements.are_among.Goals as goal

pub loop-i-init : goal.loop-i-init
loop-i-init c = none_missing_first c.args.self.all.now c.args.self.term c.args.others.now c.args.self.first c.args.self.is_first

pub loop-i-preserved : goal.loop-i-preserved
loop-i-preserved c =
    one_more_among c.args.self.all.now c.args.self.term c.args.others.now c.loop-i.i _ c.loop-i.invariant
    (c.is_missing.ensures c.if-is_missing.false)

pub returns : goal.returns
returns c = λ t.
    all_among c.args.self.all.now c.args.self.term c.args.others.now c.loop-i.i c.args.self.end c.loop-i.invariant c.args.self.none_behind
    (omega (arith, c.loop-i-test.false))
