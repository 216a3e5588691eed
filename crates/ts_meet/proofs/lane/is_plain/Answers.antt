use mir.Val.{SFits}
use Rattle.std.proofs.Common.{◌∙◌, w64, rules}
use Rattle.std.proofs.lemmas.Int.{to_z-of_z}
use Rattle.ts_meet.specs.Sides.{ends_in}
use Rattle.ts_meet.proofs.Lanes.{plain_told}
use Rattle.ts_meet.proofs.lane.is_plain.Goals as goal

pub returns : goal.returns
returns c so =
    let f : SFits w64 c.lane.result = search rules in
    let g : SFits w64 c.lane-2.result = search rules in
    let h : SFits w64 c.lane-3.result = search rules in
    plain_told c.args.end c.args.wide c.args.operator (ends_in c.args.side) c.is_add-adds.result c.is_few.result c.is_few-2.result c.is_few-3.result
    _ _ _ c.crossed.result c.is_add-adds.ensures (to_z-of_z w64 c.lane.result f ∙ c.lane.ensures) (to_z-of_z w64 c.lane-2.result g ∙ c.lane-2.ensures)
    (to_z-of_z w64 c.lane-3.result h ∙ c.lane-3.ensures) c.crossed.ensures c.is_few.ensures c.is_few-2.ensures c.is_few-3.ensures so
