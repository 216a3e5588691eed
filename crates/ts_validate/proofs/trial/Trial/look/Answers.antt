use Rattle.std.proofs.Common.{map, ◌∙◌}
use Rattle.ts_regex.specs.Shape.{shape_of}
use Rattle.ts_validate.proofs.Seeing.{sees_plan}
use Rattle.ts_validate.proofs.trial.Trial.look.Goals as goal

pub returns : goal.returns
returns c =
    let trial = c.args.self.now in
    sees_plan trial.rows.now (shape_of trial.pattern.now.regex) trial.pattern.now.b (map (λ s. shape_of s) trial.plan.now.residuals.items)
    c.as_slice-configurations.result.now trial.plan.now.configurations.items c.as_slice-table.result.now c.as_slice-configurations.ensures.value trial.fits
    (c.as_slice-table.ensures.value ∙ trial.known) c.args.i c.index-configurations-i.result c.requires c.index-configurations-i.is c.args.letter
    c.in_ok-look_at.field-0 c.in_ok-look_at.ensures.next c.in_ok-look_at.ensures.meets
