use Rattle.std.proofs.Common.{◌≡◌, ◌++◌, drop, map}
use Rattle.ts_run.specs.Refusals.{sign_of}
use Rattle.ts_run.proofs.refusal.push_signs.Given as goal

abbrev pub invariant-loop-letter : goal.invariant-loop-letter
invariant-loop-letter l = l.text.items ++ map sign_of (drop l.letter-index l.signature) ≡ l.initial.text.items ++ map sign_of l.signature
