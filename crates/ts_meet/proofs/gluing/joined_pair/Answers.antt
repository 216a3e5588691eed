use Rattle.std.proofs.Common.{w64, subst}
use Rattle.std.proofs.lemmas.Int.{to_z-of_z}
use Rattle.ts_automaton.specs.Registers.{spans_of}
use Rattle.ts_row.specs.Rows.{lanes_of}
use Rattle.ts_sweep.specs.Packed.{unpacked}
use Rattle.ts_sweep.specs.Sides.{sides}
use Rattle.ts_glue.specs.Glue.{glue_in}
use Rattle.ts_hull.specs.Sealed.{sealed_spans}
use Rattle.ts_sweep.specs.Packed.{IsPackOf, unpacked}
use Rattle.ts_meet.specs.Joints.{told_joined}
use Rattle.ts_meet.specs.Sides.{pointed_spans}
use Rattle.ts_meet.proofs.gluing.joined_pair.Goals as goal

pub returns : goal.returns
returns g c =
    let s = sides g.row.N in
    let left = pointed_spans s (spans_of (unpacked (lanes_of g.row.N c.args.left.now))) in
    let right = pointed_spans s (spans_of (unpacked (lanes_of g.row.N c.args.right.now))) in
    subst (λ w. IsPackOf c.pointed_joined.result (glue_in sealed_spans left right
    (told_joined c.args.operator c.args.fold w c.args.wide c.args.trims c.args.held_left c.args.held_right)))
    (to_z-of_z w64 c.args.worth c.ranges.worth) c.pointed_joined.ensures
