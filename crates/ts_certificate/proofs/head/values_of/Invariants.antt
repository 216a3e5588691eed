use Rattle.std.proofs.Common.{◌≡◌}
use Rattle.ts_certificate.specs.HeadLines.{values_of}
use Rattle.ts_base.specs.Words.{more_seen, left_of}
use Rattle.ts_certificate.proofs.ValueLaws.{values_ahead}
use Rattle.ts_certificate.proofs.head.values_of.Given as goal

abbrev pub invariant-loop-rest : goal.invariant-loop-rest
invariant-loop-rest l = values_ahead l.values.items (values_of (more_seen l.rest)) ≡ values_of (more_seen l.fn.words)

abbrev pub decreases-loop-rest : goal.decreases-loop-rest
decreases-loop-rest l = left_of l.rest
