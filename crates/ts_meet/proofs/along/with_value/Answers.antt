use mir.Val.{of_z, to_z}
use Rattle.std.proofs.Common.{◌≡◌, ◌⊎◌, false, w64, sym, subst, rules}
use Rattle.ts_row.specs.Rows.{lanes_of}
use Rattle.ts_sweep.specs.Sides.{BothEnds, sides}
use Rattle.ts_meet.specs.Peaks.{IsTaken}
use Rattle.ts_meet.specs.Sides.{side_of}
use Rattle.ts_meet.proofs.along.with_value.Goals as goal

pub with_glued-requires : goal.with_glued-requires
with_glued-requires g c =
    let n = g.row.N in let given = c.requires in let a = c.args.gluing in let is = sym c.with_worth.ensures in
    let w = to_z w64 (of_z w64 c.worth-worth.result) in
    let here = side_of (sides n) (lanes_of n c.args.left.now) in let there = side_of (sides n) (lanes_of n c.args.right.now) in
    let fits = subst g.S.Seam.fits is (g.met.S.Seam.any_worth a w given.fits) in
    let alone = subst (λ z. (sides n ≡ BothEnds) ⊎ (z.wide ≡ false)) is given.alone in
    let taken : IsTaken n (g.S.Seam.takes c.with_worth.result) c.args.left.now c.args.right.now =
    λ h t. subst (λ z. g.S.Seam.takes z here there) is (g.met.S.Seam.takes_any a w here there (given.takes h t)) in
    (search rules, (fits, (given.registers, (alone, (given.left, (given.right, (search rules, (taken, given.mark))))))))
