use Rattle.std.proofs.Common.{arith, refl, subst}
use Rattle.std.proofs.lemmas.Bool.Decides.{nat_tests}
use Rattle.ts_base.specs.Words.{strict_lines}
use Rattle.ts_checker.specs.Verdicts.{IsTrueOf, IsVerdict}
use Rattle.ts_checker.proofs.WholeSteps.{fed_more, fed_all, none_fed}
use Rattle.ts_checker.proofs.whole.verdict_on.Goals as goal

pub loop-rest-init : goal.loop-rest-init
loop-rest-init c = none_fed c.args.text.now c.args.checker.model c.args.checker c.requires.unfed refl

pub feed_line-requires : goal.feed_line-requires
feed_line-requires c = let n = c.loop-rest.invariant.few in let few = c.requires.few in omega (arith, n, few)

pub loop-rest-preserved : goal.loop-rest-preserved
loop-rest-preserved c =
    let fed = c.in_ok-feed_line.ensures in
    let cut = c.first_line.ensures in
    fed_more c.args.text.now c.loop-rest.rest.now c.first_line.result.0.now c.first_line.result.1.now c.args.checker.model
    c.loop-rest.checker c.feed_line.new.self c.loop-rest.invariant cut.cut cut.parts cut.some fed.checked fed.model fed.next

pub finish-requires : goal.finish-requires
finish-requires c = c.loop-rest.invariant.checked.calm

pub returns : goal.returns
returns c =
    let all = fed_all c.args.text.now c.loop-rest.rest.now c.args.checker.model c.loop-rest.checker c.loop-rest.invariant (grind (arith, nat_tests)) in
    let texts = strict_lines c.args.text.now in
    record {
      is = subst (λ z. IsVerdict z texts c.finish.result) c.loop-rest.invariant.model (c.finish.ensures.verdict texts all);
      holds = λ e. subst (λ z. IsTrueOf z texts) c.loop-rest.invariant.model (c.finish.ensures.holds texts all e);
    }
