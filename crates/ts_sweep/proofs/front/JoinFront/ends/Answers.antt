use Rattle.std.proofs.Common.{◌≡◌, sym, subst, arith}
use Rattle.ts_sweep.specs.FrontLaws.{to_loose}
use Rattle.ts_sweep.specs.Packed.{AreWithin}
use Rattle.ts_sweep.specs.Sides.{as_read}
use Rattle.ts_sweep.specs.TailLaws.{tail_front}
use Rattle.ts_sweep.proofs.RunSteps.{as_passed}
use Rattle.ts_sweep.proofs.front.JoinFront.ends.Goals as goal

pub ends-requires-clause-fit : goal.ends-requires-clause-fit
ends-requires-clause-fit g c =
    let xs = as_read g.H.Packed.sides (g.H.Packed.lanes c.args.h) in
    to_loose (g.O.Operator.adds c.args.self.by) (λ b. g.A.Front.fit c.args.self.left b xs) (g.met.A.Front.looser c.args.self.left xs) c.requires.fit.1

pub ends-requires-2-clause-fit : goal.ends-requires-2-clause-fit
ends-requires-2-clause-fit g c =
    let xs = as_read g.H.Packed.sides (g.H.Packed.lanes c.args.h) in
    to_loose (g.O.Operator.adds c.args.self.by) (λ b. g.B.Front.fit c.args.self.right b xs) (g.met.B.Front.looser c.args.self.right xs) c.requires.fit.2

pub of-requires-clause-first : goal.of-requires-clause-first
of-requires-clause-first g c =
    let xs = as_read g.H.Packed.sides (g.H.Packed.lanes c.args.h) in
    let left = c.args.self.left in
    let few = c.requires.fit.0 in
    λ added. subst (AreWithin 9)
    (sym (as_passed (λ z. c.ends.result ≡ g.A.Front.value left xs z) c.args.x c.requires.small c.ends.ensures))
    (tail_front (g.O.Operator.adds c.args.self.by) (g.A.Front.words left) (λ b. g.A.Front.fit left b xs) (g.A.Front.value left xs c.args.x)
    (λ le f. g.met.A.Front.within left xs c.args.x le f c.requires.small) (omega (arith, few)) c.requires.fit.1 added)

pub of-requires-clause-second : goal.of-requires-clause-second
of-requires-clause-second g c =
    let xs = as_read g.H.Packed.sides (g.H.Packed.lanes c.args.h) in
    let right = c.args.self.right in
    let few = c.requires.fit.0 in
    λ added. subst (AreWithin 9)
    (sym (as_passed (λ z. c.ends-2.result ≡ g.B.Front.value right xs z) c.args.x c.requires.small c.ends-2.ensures))
    (tail_front (g.O.Operator.adds c.args.self.by) (g.B.Front.words right) (λ b. g.B.Front.fit right b xs) (g.B.Front.value right xs c.args.x)
    (λ le f. g.met.B.Front.within right xs c.args.x le f c.requires.small) (omega (arith, few)) c.requires.fit.2 added)
