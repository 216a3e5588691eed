use Rattle.std.proofs.Common.{subst}
use Rattle.ts_validate.specs.Reaches.{IsTour}
use Rattle.ts_validate.specs.Trials.{subject_of}
use Rattle.ts_validate.proofs.Verdict.{closed_is, failure_tells, refusal_is}
use Rattle.ts_validate.proofs.closure.check.Goals as goal

pub returns-in-None-clause-closed : goal.returns-in-None-clause-closed
returns-in-None-clause-closed c =
    let t = c.in_ok-tour.tour in
    let h = subst (λ z. IsTour z t) c.in_ok-trial.ensures c.in_ok-tour.ensures.tour in
    closed_is c.args.rows.now c.args.p.now c.args.plan.now c.requires.fits t h c.in_ok-tour.ensures.full c.in-None.ensures

pub signature-requires-clause-there : goal.signature-requires-clause-there
signature-requires-clause-there c =
    let t = c.in_ok-tour.tour in
    let f = c.in-Some.failure in
    let h = c.in_ok-tour.ensures.tour in
    let tells = failure_tells (subject_of c.in_ok-trial.trial) t h f.configuration f c.in-Some.ensures.1 in
    (h.reaches.there f.configuration f.place tells.0).0

pub returns-clause-refused : goal.returns-clause-refused
returns-clause-refused c =
    let t = c.in_ok-tour.tour in
    let h = subst (λ z. IsTour z t) c.in_ok-trial.ensures c.in_ok-tour.ensures.tour in
    let fails = c.in-Some.ensures in
    refusal_is c.args.rows.now c.args.p.now c.args.plan.now c.requires.fits t h c.in_ok-tour.ensures.full c.in-Some.failure fails.0 fails.1 fails.2
    c.in_ok-signature-in-Some.signature.items c.in_ok-signature-in-Some.ensures
