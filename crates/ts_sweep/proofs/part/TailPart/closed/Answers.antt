use Rattle.std.proofs.Common.{◌≡◌, sym, subst, arith}
use Rattle.ts_sweep.specs.FrontLaws.{number_within, small_number}
use Rattle.ts_sweep.specs.Packed.{AreWithin, number_ends}
use Rattle.ts_sweep.specs.TailLaws.{ends_wider}
use Rattle.ts_sweep.proofs.RunSteps.{as_passed}
use Rattle.ts_sweep.proofs.part.TailPart.closed.Goals as goal

pub of-requires-clause-second : goal.of-requires-clause-second
of-requires-clause-second g c =
    λ added. subst (AreWithin 9) (sym (as_passed (λ z. c.number.result ≡ number_ends z) c.args.y c.requires.small c.number.ensures))
    (ends_wider 1 _ (omega arith) (number_within c.args.y (small_number c.args.y c.requires.small)))
