use Rattle.std.proofs.Common.{◌<ℤ◌, sym, subst}
use Rattle.ts_row.specs.Rows.{lanes_of}
use Rattle.ts_sweep.specs.declared.packed.Ends.{Ends}
use Rattle.ts_sweep.specs.Lanes.{least}
use Rattle.ts_sweep.specs.Sides.{lane_count, sides}
use Rattle.ts_meet.proofs.Pointed.{names_above, pointed_by}
use Rattle.ts_meet.proofs.side.register_of.Goals as goal

pub returns : goal.returns
returns g c some =
    let s = sides g.row.N in let xs = lanes_of g.row.N c.args.h.now in
    let above = names_above s (lane_count g.row.N) xs c.args.register c.requires some in
    pointed_by s xs c.args.register c.ends.result c.pointed.result c.ends.ensures.value
    (c.pointed.ensures (subst (λ (e : Ends). least <ℤ e.below) (sym c.ends.ensures.value) above.0)
    (subst (λ (e : Ends). least <ℤ e.above) (sym c.ends.ensures.value) above.1))
