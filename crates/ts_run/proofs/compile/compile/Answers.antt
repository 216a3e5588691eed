use Rattle.std.proofs.Common.{refl}
use Rattle.ts_model.specs.declared.model.Need.TheVariants.{Values}
use Rattle.ts_model.specs.Views.{model_parts, terms_in}
use Rattle.ts_run.specs.AnswerTexts.{ProgramReply}
use Rattle.ts_run.specs.CompiledValue.{IsProgramText}
use Rattle.ts_run.proofs.Steps.{model_fails, model_replies}
use Rattle.ts_run.proofs.compile.compile.Goals as goal

pub returns-in_err-model : goal.returns-in_err-model
returns-in_err-model c =
    model_fails Values c.args.bytes.now ProgramReply c.in_err-model.field-0.0 c.from_residual.result c.in_err-model.ensures.gives c.from_residual.ensures.1

pub returns : goal.returns
returns c =
    let program : IsProgramText (model_parts c.in_ok-model.model) c.in_ok-text.text.items = record {
      terms = terms_in c.in_ok-model.model;
      terms_are = refl;
      text_is = c.in_ok-text.ensures;
    } in
    (model_replies Values c.args.bytes.now ProgramReply (model_parts c.in_ok-model.model) _ c.in_ok-model.ensures.gives (program, refl), tt)
