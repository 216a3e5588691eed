use Rattle.std.proofs.Common.{refl, ◌∙◌}
use Rattle.ts_compile.proofs.Over.{looks_at_all}
use Rattle.ts_run.proofs.ReadingSteps.{first_readings}
use Rattle.ts_run.proofs.readings.ReadingsText.new.Goals as goal

pub new-requires : goal.new-requires
new-requires c = looks_at_all c.in_ok-compile_model.field-0 c.args.model.now c.in_ok-compile_model.ensures c.requires.windowless

pub returns : goal.returns
returns c = record {
  stand = first_readings c.args.model.now _ c.requires.few c.requires.windowless refl c.in_ok-new.ensures.stands
      (c.in_ok-new.ensures.terms ∙ c.in_ok-compile_model.ensures.terms)
      c.new-2.ensures;
}
