use Rattle.std.proofs.Common.{subst}
use Rattle.ts_checker.specs.Feeding.{HasTaken}
use Rattle.ts_checker.proofs.InputEnds.{behind_failed, none_failed}
use Rattle.ts_checker.proofs.input.Input.failed.Goals as goal

pub returns-in-Behind : goal.returns-in-Behind
returns-in-Behind c = λ bytes h.
    behind_failed c.in-Behind.opened c.failed.result c.failed.ensures bytes (subst (HasTaken bytes) c.in-Behind.is h)

pub returns-in-InModel : goal.returns-in-InModel
returns-in-InModel c = λ bytes h. none_failed bytes c.in-InModel.field-0 (subst (HasTaken bytes) c.in-InModel.is h).0
