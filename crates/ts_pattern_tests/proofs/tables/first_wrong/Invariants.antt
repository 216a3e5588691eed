use Rattle.std.proofs.Common.{length}
use Rattle.ts_pattern_tests.proofs.tables.first_wrong.Given as goal

abbrev pub decreases-loop-rest : goal.decreases-loop-rest
decreases-loop-rest l = length l.rest
