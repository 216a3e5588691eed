use Rattle.std.proofs.Common.{◌≡◌, ◌+◌, length, take, drop}
use Rattle.ts_token.specs.Text.{words_from}
use Rattle.ts_token.specs.Views.{pieces}
use Rattle.ts_token.proofs.words.first_words.Given as goal

abbrev pub invariant-loop : goal.invariant-loop
invariant-loop l = record {
  taken : pieces l.words.items ≡ take l.counter (words_from l.column l.bytes);
  left : words_from l.at l.rest ≡ drop l.counter (words_from l.column l.bytes);
  place : l.at + length l.rest ≡ l.column + length l.bytes;
}
