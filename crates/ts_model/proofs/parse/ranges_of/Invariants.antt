use Rattle.std.proofs.Common.{◌≡◌, ◌+◌, ◌<◌, length}
use Rattle.ts_token.specs.Text.{words_from}
use Rattle.ts_model.specs.ModelReading.{texts_of}
use Rattle.ts_model.specs.Words.{ranges_of}
use Rattle.ts_model.proofs.RangeLaws.{ahead}
use Rattle.ts_model.proofs.parse.ranges_of.Given as goal

abbrev pub invariant-loop-next : goal.invariant-loop-next
invariant-loop-next l = record {
  read : ahead l.items.items (ranges_of (texts_of (words_from l.at l.rest))) ≡ ranges_of (texts_of (words_from l.column l.bytes));
  some : 0 < length l.items.items + length (words_from l.at l.rest);
  place : l.at + length l.rest ≡ l.column + length l.bytes;
}

abbrev pub decreases-loop-next : goal.decreases-loop-next
decreases-loop-next l = length l.rest
