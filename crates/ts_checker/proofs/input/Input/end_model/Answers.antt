use Rattle.std.proofs.Common.{subst}
use Rattle.ts_checker.specs.Feeding.{EndsIn}
use Rattle.ts_checker.proofs.InputLaws.{mark_opens, mark_read}
use Rattle.ts_checker.proofs.input.Input.end_model.Goals as goal

pub model-requires : goal.model-requires
model-requires c = let some = c.requires in (some.0, (subst (EndsIn some.0) c.in-InModel.is some.1).0)

pub of-requires : goal.of-requires
of-requires c =
    let some = c.requires in mark_read some.0 c.in-InModel.text c.model.result c.model.ensures (subst (EndsIn some.0) c.in-InModel.is some.1)

pub returns : goal.returns
returns c = λ bytes h.
    mark_opens bytes c.in-InModel.text c.model.result c.model.ensures (subst (EndsIn bytes) c.in-InModel.is h) _ c.in_ok-opened-in-InModel.ensures
