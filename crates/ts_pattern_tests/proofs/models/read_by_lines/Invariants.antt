use Rattle.std.proofs.Common.{◌+◌, ◌<◌, length}
use Rattle.ts_model.specs.LineByLine.{lines_read}
use Rattle.ts_pattern_tests.proofs.models.read_by_lines.Given as goal

abbrev pub invariant-loop-rest : goal.invariant-loop-rest
invariant-loop-rest l = lines_read l.reader + length l.rest < 10000

abbrev pub decreases-loop-rest : goal.decreases-loop-rest
decreases-loop-rest l = length l.rest
