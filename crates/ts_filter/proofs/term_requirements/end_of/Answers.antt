use Rattle.std.proofs.Common.{arith}
use Rattle.ts_filter.proofs.Refuting.{none_from_before, none_from_end}
use Rattle.ts_filter.proofs.SoundLaws.{clash}
use Rattle.ts_filter.proofs.term_requirements.end_of.Goals as goal

pub loop-end-init : goal.loop-end-init
loop-end-init c = record { within = omega arith; none_behind = none_from_end c.args.all.now c.args.term }

pub loop-end-preserved : goal.loop-end-preserved
loop-end-preserved c =
    let within = c.loop-end.invariant.within in
    record {
      within = omega (arith, within);
      none_behind = none_from_before c.args.all.now c.args.term c.loop-end.end _ c.loop-end.invariant.none_behind
          (λ h. clash _ (c.is_of.ensures.1 h) c.if-is_of.false);
    }
