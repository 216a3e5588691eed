use Rattle.std.proofs.Common.{◌≡◌, drop}
use Rattle.ts_token.specs.Views.{rows}
use Rattle.ts_user.specs.Stated.{nothing}
use Rattle.ts_user.specs.PatternReading.{read_rows}
use Rattle.ts_user.specs.Views.{stated_of, IsSound}
use Rattle.ts_user.proofs.read.read_lines.Given as goal

abbrev pub invariant-loop-line : goal.invariant-loop-line
invariant-loop-line l = record {
  read : read_rows l.alone (stated_of l.draft) (rows (drop l.line-index l.lines)) ≡ read_rows l.alone nothing (rows l.lines);
  sound : IsSound l.draft;
  alone : l.draft.alone ≡ l.alone;
}
