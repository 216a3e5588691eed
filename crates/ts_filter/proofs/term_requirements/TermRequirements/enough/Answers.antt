use Rattle.std.proofs.Common.{arith}
use Rattle.ts_filter.proofs.Refuting.{none_before_first, none_of_all, none_of_more}
use Rattle.ts_filter.proofs.term_requirements.TermRequirements.enough.Goals as goal

pub loop-k-init : goal.loop-k-init
loop-k-init c s reaches = none_before_first c.args.self.all.now c.args.self.term s c.args.self.first c.args.self.is_first

pub loop-k-preserved : goal.loop-k-preserved
loop-k-preserved c s reaches =
    let told = c.in_ok-ends.ensures s reaches in
    none_of_more c.args.self.all.now c.args.self.term s c.loop-k.k _ (c.loop-k.invariant s told.0) (omega (arith, c.loop-k-test.true, c.args.self.within))
    (λ h. told.1 h.0 h.1)

pub returns : goal.returns
returns c s reaches h =
    none_of_all c.args.self.all.now c.args.self.term s c.loop-k.k c.args.self.end (c.loop-k.invariant s reaches) c.args.self.none_behind
    (omega (arith, c.loop-k-test.false)) h.0 h.1
