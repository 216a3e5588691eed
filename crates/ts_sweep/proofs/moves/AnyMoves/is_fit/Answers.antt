use Rattle.ts_sweep.specs.Sides.{as_read}
use Rattle.ts_sweep.proofs.Fits.{parts_fit}
use Rattle.ts_sweep.proofs.moves.AnyMoves.is_fit.Goals as goal

pub returns-then-are_for : goal.returns-then-are_for
returns-then-are_for g c =
    let s = g.H.Packed.sides in
    let lanes = g.H.Packed.lanes in
    λ is h packed bounded. (
      parts_fit s g.H.Packed.count (g.P.EachPart.fits c.args.self) (lanes h) c.requires.registers packed
          (λ some. c.are_fit.ensures is (as_read s (lanes h)) (bounded some)),
      c.are_for.ensures c.if-are_for.true,
    )
