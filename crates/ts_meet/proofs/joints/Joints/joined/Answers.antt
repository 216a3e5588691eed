use Rattle.std.proofs.Common.{sym, ◌∙◌, refl}
use Rattle.ts_glue.specs.Glue.{worth}
use Rattle.ts_sweep.specs.FrontLaws.{never_added}
use Rattle.ts_meet.proofs.Gluings.{none_goes_on, seam_told}
use Rattle.ts_meet.proofs.joints.Joints.joined.Goals as goal

pub returns-in-Through-clause-value : goal.returns-in-Through-clause-value
returns-in-Through-clause-value c p h joins x =
    let d = worth p.table.unit x in
    seam_told p c.args.left c.args.right x d c.in-Through.seam _ c.args.operator (c.requires.operator ∙ h.result) refl
    (sym c.in-Through.is ∙ c.shape.ensures p h) (c.by_seam.ensures.value p.table.op d (c.requires.fold ∙ h.fold) h.wide)

pub returns-in-Apart-clause-value : goal.returns-in-Apart-clause-value
returns-in-Apart-clause-value c p h joins x =
    let none = none_goes_on p c.args.left c.args.right c.shape.result (c.shape.ensures p h) c.in-Apart.is in
    never_added (sym joins ∙ none)
