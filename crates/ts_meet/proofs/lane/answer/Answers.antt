use mir.Val.{SFits}
use Rattle.std.proofs.Common.{◌∙◌, w64, rules}
use Rattle.std.proofs.lemmas.Int.{to_z-of_z}
use Rattle.ts_meet.specs.Sides.{ends_in}
use Rattle.ts_meet.proofs.Lanes.{added_by, answer_added, answer_is, folded_by_parts}
use Rattle.ts_meet.proofs.lane.answer.Goals as goal

pub folded-requires : goal.folded-requires
folded-requires c adds =
    let f : SFits w64 c.lane.result = search rules in
    let g : SFits w64 c.held.result = search rules in
    added_by _ _ _ _ (to_z-of_z w64 c.lane.result f ∙ c.lane.ensures) (to_z-of_z w64 c.held.result g ∙ c.held.ensures)
    (answer_added c.args.end c.args.wide c.args.operator (ends_in c.args.side) c.requires adds)

pub returns : goal.returns
returns c =
    let f : SFits w64 c.lane.result = search rules in
    let g : SFits w64 c.held.result = search rules in
    let r : SFits w64 c.folded.result = search rules in
    to_z-of_z w64 c.folded.result r ∙ c.folded.ensures
    ∙ folded_by_parts c.args.end c.args.operator _ _ _ _ _ (to_z-of_z w64 c.lane.result f ∙ c.lane.ensures)
    (to_z-of_z w64 c.held.result g ∙ c.held.ensures)
    (answer_is c.args.end c.args.wide c.args.operator (ends_in c.args.side) c.requires)
