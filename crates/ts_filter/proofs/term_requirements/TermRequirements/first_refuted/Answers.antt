use Rattle.std.proofs.Common.{arith}
use Rattle.ts_filter.proofs.Refuting.{first_found, none_before_first, none_of_more, none_of_all}
use Rattle.ts_filter.proofs.SoundLaws.{clash}
use Rattle.ts_filter.proofs.term_requirements.TermRequirements.first_refuted.Goals as goal

pub loop-at-init : goal.loop-at-init
loop-at-init c = none_before_first c.args.self.all.now c.args.self.term c.args.span c.args.self.first c.args.self.is_first

pub returns-then-is_refuted : goal.returns-then-is_refuted
returns-then-is_refuted c =
    first_found c.args.self.all.now c.args.self.term c.args.span c.loop-at.at _ c.loop-at.invariant (omega (arith, c.loop-at-test.true, c.args.self.within))
    (c.is_refuted.ensures.0 c.if-is_refuted.true)

pub loop-at-preserved : goal.loop-at-preserved
loop-at-preserved c =
    none_of_more c.args.self.all.now c.args.self.term c.args.span c.loop-at.at _ c.loop-at.invariant (omega (arith, c.loop-at-test.true, c.args.self.within))
    (λ h. clash _ (c.is_refuted.ensures.1 h) c.if-is_refuted.false)

pub returns : goal.returns
returns c =
    none_of_all c.args.self.all.now c.args.self.term c.args.span c.loop-at.at c.args.self.end c.loop-at.invariant c.args.self.none_behind
    (omega (arith, c.loop-at-test.false))
