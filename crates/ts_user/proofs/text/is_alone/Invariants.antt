use Rattle.std.proofs.Common.{◌≡◌, ◌≤◌, length}
use Rattle.ts_token.specs.Text.{lines_of, cut_of}
use Rattle.ts_user.specs.PatternReading.{is_alone}
use Rattle.ts_user.proofs.TextLines.{has_one}
use Rattle.ts_user.proofs.text.is_alone.Given as goal

abbrev pub invariant-loop-rest : goal.invariant-loop-rest
invariant-loop-rest l = record {
  one : has_one l.is_found (lines_of l.rest) ≡ is_alone (cut_of l.text);
  short : length l.rest ≤ length l.text;
}

abbrev pub decreases-loop-rest : goal.decreases-loop-rest
decreases-loop-rest l = length l.rest
