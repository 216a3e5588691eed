use Rattle.ts_meet.proofs.Gluings.{known_apart}
use Rattle.ts_meet.proofs.seam.PlainApartSeam.pointed.Goals as goal

pub returns : goal.returns
returns g c = known_apart c.known-known.result c.args.gluing _ _ _ c.known-known.ensures c.requires.fits.0 c.held_apart.ensures
