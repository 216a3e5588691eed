use Rattle.std.proofs.Common.{sym, subst}
use Rattle.ts_automaton.specs.Registers.{spans_of}
use Rattle.ts_glue.specs.Glue.{glue_in}
use Rattle.ts_hull.specs.Sealed.{sealed_spans}
use Rattle.ts_row.specs.Rows.{lanes_of}
use Rattle.ts_sweep.specs.Packed.{IsPackOf, unpacked}
use Rattle.ts_sweep.specs.Sides.{seen, sides}
use Rattle.ts_meet.specs.Joints.{expression}
use Rattle.ts_meet.proofs.SeenGlue.{shown_glued}
use Rattle.ts_meet.proofs.seam.glued_by.Goals as goal

pub returns : goal.returns
returns g c =
    let s = sides g.row.N in
    let left = spans_of (unpacked (lanes_of g.row.N c.args.left.now)) in let right = spans_of (unpacked (lanes_of g.row.N c.args.right.now)) in
    subst (λ e. IsPackOf e (seen s (glue_in sealed_spans left right (expression c.args.gluing)))) (sym c.shown.ensures)
    (shown_glued s c.args.gluing left right c.pointed.result c.requires.alone c.pointed.ensures)
