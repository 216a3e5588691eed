use Rattle.std.proofs.Common.{◌≡◌, ◌+◌, ◌++◌, drop}
use Rattle.ts_run.specs.Verdict.{fault_lines}
use Rattle.ts_run.proofs.verdict.push_faults.Given as goal

abbrev pub invariant-loop-k : goal.invariant-loop-k
invariant-loop-k l = l.text.items ++ fault_lines l.word (l.k + 1) (drop l.k l.tests) ≡ l.initial.text.items ++ fault_lines l.word 1 l.tests
