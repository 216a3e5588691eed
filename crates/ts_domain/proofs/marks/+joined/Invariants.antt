use Rattle.std.proofs.Common.{◌+◌, length}
use Rattle.ts_domain.proofs.marks.+joined.Given as goal

abbrev pub decreases-joined : goal.decreases-joined
decreases-joined l = length l.before + length l.behind
