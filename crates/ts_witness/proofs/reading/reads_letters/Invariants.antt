use Rattle.std.proofs.Common.{◌≡◌, ℕ, ◌<◌, true}
use Rattle.ts_automaton.specs.Body.{node_at}
use Rattle.ts_witness.specs.Letters.{node_reads_letters}
use Rattle.ts_witness.proofs.reading.reads_letters.Given as goal

abbrev pub invariant-loop-q : goal.invariant-loop-q
invariant-loop-q l = (i : ℕ) → i < l.q → node_reads_letters (node_at l.a.states i) ≡ true
