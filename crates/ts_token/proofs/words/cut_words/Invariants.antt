use Rattle.std.proofs.Common.{◌≡◌, ◌+◌, ◌++◌, length}
use Rattle.ts_token.specs.Text.{words_of, words_from}
use Rattle.ts_token.specs.Views.{pieces}
use Rattle.ts_token.proofs.words.cut_words.Given as goal

abbrev pub invariant-loop-next : goal.invariant-loop-next
invariant-loop-next l = record {
  words : pieces l.words.items ++ words_from l.column l.rest ≡ words_of l.line;
  place : l.column + length l.rest ≡ 1 + length l.line;
}

abbrev pub decreases-loop-next : goal.decreases-loop-next
decreases-loop-next l = length l.rest
