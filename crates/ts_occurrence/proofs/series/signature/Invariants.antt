use Rattle.std.proofs.Common.{◌≡◌, take}
use Rattle.ts_base.specs.Signature.{signature_of}
use Rattle.ts_occurrence.proofs.series.signature.Given as goal

abbrev pub invariant-loop-k : goal.invariant-loop-k
invariant-loop-k l = l.letters.items ≡ signature_of (take l.k l.series)
