use Rattle.std.proofs.Common.{arith, subst}
use Rattle.std.proofs.lemmas.Result.{IfOk-weaker}
use Rattle.ts_checker.specs.Feeding.{HasTaken}
use Rattle.ts_checker.specs.Verified.{model_part}
use Rattle.ts_checker.proofs.InputEnds.{ends_behind, ends_in_model}
use Rattle.ts_checker.proofs.InputLaws.{behind_calm, behind_few, opened_calm, opened_few}
use Rattle.ts_checker.proofs.input.Input.finish.Goals as goal

pub ended-requires-clause-need : goal.ended-requires-clause-need
ended-requires-clause-need c = let some = c.requires in (subst (HasTaken some.0) c.in-InModel.is some.1).1

pub ended-requires-clause-few : goal.ended-requires-clause-few
ended-requires-clause-few c =
    let some = c.requires in (some.0, (subst (HasTaken some.0) c.in-InModel.is some.1).0, omega (arith, some.2))

pub finish-requires-clause-calm : goal.finish-requires-clause-calm
finish-requires-clause-calm c =
    let some = c.requires in
    opened_calm (model_part some.0) c.in_ok-ended-in-InModel.field-0
    (c.in_ok-ended-in-InModel.ensures some.0 (subst (HasTaken some.0) c.in-InModel.is some.1).0)

pub finish-requires-clause-few : goal.finish-requires-clause-few
finish-requires-clause-few c =
    let some = c.requires in
    opened_few (model_part some.0) c.in_ok-ended-in-InModel.field-0 (c.in_ok-ended-in-InModel.ensures some.0 (subst (HasTaken some.0) c.in-InModel.is some.1).0)

pub returns-in_ok-ended-in-InModel : goal.returns-in_ok-ended-in-InModel
returns-in_ok-ended-in-InModel c =
    IfOk-weaker c.finish.result _ _
    (λ end ends bytes h.
    let taken = subst (HasTaken bytes) c.in-InModel.is h in
    ends_in_model bytes c.in-InModel.text c.in_ok-ended-in-InModel.field-0 end taken.0 (c.in_ok-ended-in-InModel.ensures bytes taken.0) ends)
    c.finish.ensures

pub finish-requires-in-Behind-clause-calm : goal.finish-requires-in-Behind-clause-calm
finish-requires-in-Behind-clause-calm c =
    let some = c.requires in behind_calm some.0 c.in-Behind.opened (subst (HasTaken some.0) c.in-Behind.is some.1)

pub finish-requires-in-Behind-clause-few : goal.finish-requires-in-Behind-clause-few
finish-requires-in-Behind-clause-few c =
    let some = c.requires in behind_few some.0 c.in-Behind.opened 0 (subst (HasTaken some.0) c.in-Behind.is some.1) some.2

pub returns-in-Behind : goal.returns-in-Behind
returns-in-Behind c =
    IfOk-weaker c.finish-in-Behind.result _ _ (λ end ends bytes h. ends_behind bytes c.in-Behind.opened end (subst (HasTaken bytes) c.in-Behind.is h) ends)
    c.finish-in-Behind.ensures
