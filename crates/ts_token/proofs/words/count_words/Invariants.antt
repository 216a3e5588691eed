use Rattle.std.proofs.Common.{◌≡◌, ◌+◌, ◌≤◌, length}
use Rattle.ts_token.specs.Text.{words_from}
use Rattle.ts_token.proofs.words.count_words.Given as goal

abbrev pub invariant-loop-next : goal.invariant-loop-next
invariant-loop-next l = record {
  count : l.count + length (words_from l.at l.rest) ≡ length (words_from l.column l.bytes);
  place : l.at + length l.rest ≡ l.column + length l.bytes;
  few : l.count + length l.rest ≤ length l.bytes;
}

abbrev pub decreases-loop-next : goal.decreases-loop-next
decreases-loop-next l = length l.rest
