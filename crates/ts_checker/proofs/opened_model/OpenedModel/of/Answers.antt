use Rattle.std.proofs.Common.{ℕ, List, subst, sym}
use Rattle.std.specs.Prelude.{IfOk, Result}
use Rattle.ts_model.specs.declared.error.ModelStop.{ModelStop}
use Rattle.ts_model.specs.declared.model.Model.{Model}
use Rattle.ts_model.specs.declared.model.Need.TheVariants.{List as Listed}
use Rattle.ts_model.specs.ModelReading.{model_reading}
use Rattle.ts_model.specs.Views.{Reads}
use Rattle.ts_checker.specs.Feeding.{IsOpened}
use Rattle.ts_checker.proofs.InputLaws.{model_limits, model_whole, states}
use Rattle.ts_checker.proofs.opened_model.OpenedModel.of.Goals as goal

pub new-requires-clause-whole : goal.new-requires-clause-whole
new-requires-clause-whole c = let some = c.requires in model_whole some.0 c.args.read c.in-Ok.model c.in-Ok.is some.1

pub new-requires-clause-limits : goal.new-requires-clause-limits
new-requires-clause-limits c = let some = c.requires in model_limits some.0 c.args.read c.in-Ok.model c.in-Ok.is some.1

pub returns-in_ok-new-in-Ok : goal.returns-in_ok-new-in-Ok
returns-in_ok-new-in-Ok c = λ text reads. (
  states text c.args.read c.in-Ok.model _ c.in-Ok.is c.in_ok-new-in-Ok.ensures.model reads,
  c.in_ok-new-in-Ok.ensures.read,
)

pub returns-in-Err : goal.returns-in-Err
returns-in-Err c =
    subst (λ (r : Result Model ModelStop). IfOk c.refused.result (λ o. (text : List ℕ) → Reads r (model_reading Listed text) → IsOpened text o))
    (sym c.in-Err.is) c.refused.ensures
