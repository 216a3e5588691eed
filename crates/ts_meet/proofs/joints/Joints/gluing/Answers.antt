use mir.Val.{SFits}
use Rattle.std.proofs.Common.{◌≡◌, sym, ap, ◌∙◌, rules, to_z, of_z, w64}
use Rattle.std.proofs.lemmas.Int.{to_z-of_z}
use Rattle.ts_glue.specs.Glue.{worth}
use Rattle.ts_meet.specs.Joints.{expression}
use Rattle.ts_meet.proofs.Gluings.{none_goes_on, seam_told}
use Rattle.ts_meet.proofs.joints.Joints.gluing.Goals as goal

pub returns-in-Apart-clause-value : goal.returns-in-Apart-clause-value
returns-in-Apart-clause-value c p h =
    let q = c.args.left in let r = c.args.right in
    c.apart.ensures.value p q r c.args.spot.value h (none_goes_on p q r c.shape.result (c.shape.ensures p h) c.in-Apart.is)

pub returns-in-Through-clause-value : goal.returns-in-Through-clause-value
returns-in-Through-clause-value c p h =
    let x = c.args.spot.value in let w = to_z w64 (of_z w64 c.worth-worth.result) in
    let fits : SFits w64 x = search rules in
    let worth_is : w ≡ worth p.table.unit x =
    to_z-of_z w64 c.worth-worth.result (search rules) ∙ c.worth-worth.ensures ∙ ap (worth c.args.self.now.unit) (to_z-of_z w64 x fits)
    ∙ ap (λ u. worth u x) h.unit in
    seam_told p c.args.left c.args.right x w c.in-Through.seam _ c.args.operator (c.requires.operator ∙ h.result) worth_is
    (sym c.in-Through.is ∙ c.shape.ensures p h) (ap expression c.with_worth.ensures ∙ c.by_seam.ensures.value p.table.op w h.fold h.wide)
