use mir.Val.{SFits}
use Rattle.std.proofs.Common.{pos, sym, ap, ◌∙◌, w64, rules}
use Rattle.std.proofs.lemmas.Int.{to_z-of_z}
use Rattle.ts_automaton.specs.Registers.{value_in}
use Rattle.ts_base.specs.declared.op.Op.TheVariants.{Add}
use Rattle.ts_glue.specs.Glue.{held_of}
use Rattle.ts_meet.specs.Ends.{lane_at}
use Rattle.ts_meet.specs.Sides.{clamped_values, ends_in}
use Rattle.ts_meet.proofs.Lanes.{added_by, folded_by_parts, held_is}
use Rattle.ts_meet.proofs.lane.held.Goals as goal

pub folded-requires : goal.folded-requires
folded-requires c adds =
    let k = c.args.end in let s = ends_in c.args.side in let wide = c.if-wide.true in
    let f : SFits w64 c.lane.result = search rules in
    let g : SFits w64 c.lane-then-wide.result = search rules in
    added_by _ _ _ _ (to_z-of_z w64 c.lane.result f ∙ c.lane.ensures)
    (to_z-of_z w64 c.lane-then-wide.result g ∙ c.lane-then-wide.ensures ∙ ap (lane_at k) c.crossed.ensures)
    (held_is k s (c.requires.held wide) (c.requires.away wide)).0

pub returns-then-wide : goal.returns-then-wide
returns-then-wide c =
    let k = c.args.end in let s = ends_in c.args.side in let wide = c.if-wide.true in
    let f : SFits w64 c.lane.result = search rules in
    let g : SFits w64 c.lane-then-wide.result = search rules in
    let r : SFits w64 c.folded.result = search rules in
    to_z-of_z w64 c.folded.result r ∙ c.folded.ensures
    ∙ folded_by_parts k Add _ _ _ _ _ (to_z-of_z w64 c.lane.result f ∙ c.lane.ensures)
    (to_z-of_z w64 c.lane-then-wide.result g ∙ c.lane-then-wide.ensures ∙ ap (lane_at k) c.crossed.ensures)
    (held_is k s (c.requires.held wide) (c.requires.away wide)).1
    ∙ sym (ap (λ w. lane_at k (value_in clamped_values s (pos 0) (pos 0) (held_of w))) wide)
