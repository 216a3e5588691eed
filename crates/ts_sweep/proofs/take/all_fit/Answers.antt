use Rattle.std.proofs.Common.{get_or}
use Rattle.ts_sweep.proofs.take.all_fit.Goals as goal

pub returns : goal.returns
returns g c =
    λ is i lt. c.is_fit.ensures is (get_or c.args.hulls.now i g.H.Hull.none) (c.requires.packed.1 i lt) (c.requires.covers i lt)
