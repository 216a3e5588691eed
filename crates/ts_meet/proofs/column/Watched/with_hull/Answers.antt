use mir.Val.{SFits}
use Rattle.std.proofs.Common.{w64, sym, subst, rules}
use Rattle.ts_row.specs.Rows.{lanes_of}
use Rattle.ts_sweep.specs.MoveLaws.{not_nothing}
use Rattle.ts_sweep.specs.Sides.{lane_count, sides}
use Rattle.ts_meet.specs.Peaks.{IsUnder, higher}
use Rattle.ts_meet.specs.Sides.{AreSomeEnds, ends_in, side_of}
use Rattle.ts_meet.proofs.Pointed.{lanes_some}
use Rattle.ts_meet.proofs.Watched.{under_now, under_still}
use Rattle.ts_meet.proofs.column.Watched.with_hull.Goals as goal

pub returns-clause-kept : goal.returns-clause-kept
returns-clause-kept g c a h =
    subst (λ z. IsUnder z a) (sym c.higher.ensures) (under_still (ends_in c.args.self.peaks) (ends_in c.of_lanes-side.result) a h)

pub returns-clause-added : goal.returns-clause-added
returns-clause-added g c some =
    let n = lane_count g.row.N in let xs = lanes_of g.row.N c.args.h.now in let s = ends_in c.of_lanes-side.result in
    let f : SFits w64 s.c.below = search rules in let h : SFits w64 s.c.above = search rules in
    let there = not_nothing n xs some c.requires.packed in let is = c.of_lanes-side.ensures there in
    let ends = subst AreSomeEnds (sym is) (lanes_some (sides g.row.N) n xs c.requires.registers there) in
    let k = ends_in c.args.self.peaks in
    subst (λ z. IsUnder z (side_of (sides g.row.N) xs)) (sym c.higher.ensures) (subst (IsUnder (higher k s)) is (under_now k s f h ends.0))
