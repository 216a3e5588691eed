use Rattle.std.proofs.Common.{◌≡◌, ◌+◌, ◌≤◌, length}
use Rattle.ts_token.specs.Text.{lines_of, cut_of}
use Rattle.ts_user.specs.LineByLine.{lines_reading}
use Rattle.ts_user.specs.PatternReading.{is_alone, pattern_reading}
use Rattle.ts_user.specs.Views.{stated_of, IsSound}
use Rattle.ts_user.proofs.text.read_pattern_text.Given as goal

abbrev pub invariant-loop-rest : goal.invariant-loop-rest
invariant-loop-rest l = record {
  read : lines_reading (is_alone (cut_of l.text)) l.count (stated_of l.draft) (lines_of l.rest) ≡ pattern_reading l.text;
  few : l.count + length l.rest ≤ length l.text;
  sound : IsSound l.draft;
  alone : l.draft.alone ≡ is_alone (cut_of l.text);
}

abbrev pub decreases-loop-rest : goal.decreases-loop-rest
decreases-loop-rest l = length l.rest
