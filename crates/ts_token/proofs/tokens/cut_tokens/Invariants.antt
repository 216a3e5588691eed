use Rattle.std.proofs.Common.{◌≡◌, ◌+◌, ◌≤◌, length}
use Rattle.ts_token.specs.Text.{cut_of, lines_of}
use Rattle.ts_token.specs.Views.{cut_view}
use Rattle.ts_token.proofs.RowLaws.{completed}
use Rattle.ts_token.proofs.tokens.cut_tokens.Given as goal

abbrev pub invariant-loop-rest : goal.invariant-loop-rest
invariant-loop-rest l = record {
  all : completed (cut_view l.tokens) (lines_of l.rest) ≡ cut_of l.text;
  place : l.tokens.count + length l.rest ≤ length l.text;
}

abbrev pub decreases-loop-rest : goal.decreases-loop-rest
decreases-loop-rest l = length l.rest
