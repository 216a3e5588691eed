use Rattle.std.proofs.Common.{length}
use Rattle.ts_pattern_tests.proofs.certificates.read_into.Given as goal

abbrev pub decreases-loop-reader : goal.decreases-loop-reader
decreases-loop-reader l = length l.rest
