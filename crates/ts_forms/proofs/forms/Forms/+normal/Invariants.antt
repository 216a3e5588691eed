use Rattle.std.proofs.Common.{◌+◌, ◌*◌}
use Rattle.ts_forms.proofs.forms.Forms.+normal.Given as goal

abbrev pub decreases-normal : goal.decreases-normal
decreases-normal l = 2 * l.i + 1

abbrev pub decreases-simplified : goal.decreases-simplified
decreases-simplified l = 2 * l.i
