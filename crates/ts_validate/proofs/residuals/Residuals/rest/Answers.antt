use Rattle.ts_forms.specs.Tables.{shapes}
use Rattle.ts_validate.proofs.Knowing.{sound_on, residuals_on, rest_is}
use Rattle.ts_validate.proofs.residuals.Residuals.rest.Goals as goal

pub returns-clause-sound : goal.returns-clause-sound
returns-clause-sound c = sound_on c.args.self.now c.residual.new.self _ c.in_ok-residual.field-0 c.requires.sound c.in_ok-residual.ensures

pub returns-clause-residuals : goal.returns-clause-residuals
returns-clause-residuals c =
    residuals_on c.args.self.now c.residual.new.self _ c.in_ok-residual.field-0 c.requires.sound c.in_ok-residual.ensures

pub returns-clause-rest : goal.returns-clause-rest
returns-clause-rest c =
    rest_is (shapes c.residual.new.self) _ _ c.args.letter c.in_ok-residual.field-0 c.form-form.ensures.same c.in_ok-residual.ensures.number
