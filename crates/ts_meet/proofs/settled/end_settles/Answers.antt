use mir.Val.{SFits}
use Rattle.std.proofs.Common.{Bool, ◌⊎◌, ◌≡◌, ◌≤ℤ◌, ◌<ℤ◌, ℤ, pos, ap, sym, subst, ◌∙◌, w64, to_z, of_z, rules}
use Rattle.std.proofs.lemmas.Int.{to_z-of_z}
use Rattle.ts_base.specs.declared.op.Op.{Op}
use Rattle.ts_automaton.specs.declared.state.Mark.TheVariants.{Same}
use Rattle.ts_glue.specs.Glue.{apart, glue_in}
use Rattle.ts_row.specs.Rows.{lanes_of}
use Rattle.ts_sweep.specs.Sides.{lane_count, sides}
use Rattle.ts_meet.specs.Ends.{lane_at}
use Rattle.ts_meet.specs.Sides.{clamped_values, side_of}
use Rattle.ts_meet.proofs.Lanes.{apart_reaches}
use Rattle.ts_meet.proofs.settled.end_settles.Goals as goal

pub returns : goal.returns
returns g c so p q r cells h none few x =
    let s = sides g.row.N in let n = lane_count g.row.N in
    let xs = lanes_of g.row.N c.args.left.now in let ys = lanes_of g.row.N c.args.right.now in let j = c.args.joints.now in
    let lane : Bool → Op → ℤ = λ w o. lane_at c.args.end (glue_in clamped_values (side_of s xs) (side_of s ys) (apart w o)) in
    let is : c.apart_lane.result ≡ lane j.wide j.result =
    c.apart_lane.ensures ∙ ap (λ w. lane w c.args.operator) c.requires.wide ∙ ap (lane j.wide) c.requires.operator in
    let f : SFits w64 c.apart_lane.result = search rules in
    let told = c.reaches_under.ensures so in
    let given = c.args.given in
    apart_reaches s n c.requires.registers p j q r x cells xs ys h none c.requires.alone c.requires.left c.requires.right few c.args.end given
    (sym c.keeps.ensures ∙ c.if-not-keeps.false)
    (subst (λ z. z ≤ℤ lane j.wide j.result) (to_z-of_z w64 given c.ranges.given)
    (subst (λ z. to_z w64 (of_z w64 given) ≤ℤ z) (to_z-of_z w64 c.apart_lane.result f ∙ is) told.0))
    (subst (λ z. (z <ℤ pos 9223372036854775807) ⊎ (j.mark ≡ Same)) (to_z-of_z w64 c.apart_lane.result f ∙ is) told.1)
