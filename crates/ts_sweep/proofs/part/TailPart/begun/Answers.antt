use Rattle.ts_sweep.specs.Sides.{as_read}
use Rattle.ts_sweep.specs.TailLaws.{tail_loose}
use Rattle.ts_sweep.proofs.part.TailPart.begun.Goals as goal

pub ends-requires-clause-fit : goal.ends-requires-clause-fit
ends-requires-clause-fit g c =
    let xs = as_read g.H.Packed.sides (g.H.Packed.lanes c.args.h) in
    tail_loose (g.O.Operator.adds c.args.self.by) (λ b. g.E.Front.fit c.args.self.front b xs) (g.met.E.Front.looser c.args.self.front xs)
    c.requires.fit.1
