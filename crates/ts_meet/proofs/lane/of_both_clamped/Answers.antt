use mir.Val.{SFits}
use Rattle.std.proofs.Common.{Bool, ap, ◌∙◌, w64, rules}
use Rattle.std.proofs.lemmas.Int.{to_z-of_z}
use Rattle.ts_base.specs.declared.op.Op.{Op}
use Rattle.ts_glue.specs.Glue.{apart, glue_in}
use Rattle.ts_sweep.specs.declared.packed.Ends.{Ends}
use Rattle.ts_meet.specs.Ends.{lane_at}
use Rattle.ts_meet.specs.Sides.{clamped_values, ends_in}
use Rattle.ts_meet.proofs.lane.of_both_clamped.Goals as goal

pub returns : goal.returns
returns c =
    let fits : SFits w64 c.lane.result = search rules in
    let made : Bool → Op → Ends = λ w o. glue_in clamped_values (ends_in c.args.left) (ends_in c.args.right) (apart w o) in
    let parts = c.apart-gluing.ensures.parts in
    to_z-of_z w64 c.lane.result fits ∙ c.lane.ensures
    ∙ ap (lane_at c.args.end) (c.answers.ensures ∙ ap (λ w. made w c.apart-gluing.result.result) parts.0 ∙ ap (made c.args.wide) parts.1)
