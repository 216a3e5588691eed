use Rattle.ts_meet.specs.Joints.{part_by}
use Rattle.ts_meet.specs.Sides.{TakesNear, ends_in, plain_values}
use Rattle.ts_meet.proofs.Gluings.{whole_taken}
use Rattle.ts_meet.proofs.gluing.Gluing.folded_near.Goals as goal

pub part_near-whole-requires-clause-fits : goal.part_near-whole-requires-clause-fits
part_near-whole-requires-clause-fits g c =
    let a = c.args in
    whole_taken plain_values TakesNear (ends_in a.left) (ends_in a.right) _ (g.K.Folding.fold a.k) (part_by a.self) c.requires.fits
