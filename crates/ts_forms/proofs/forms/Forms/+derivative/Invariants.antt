use Rattle.std.proofs.Common.{◌+◌, ◌*◌}
use Rattle.ts_forms.proofs.forms.Forms.+derivative.Given as goal

abbrev pub decreases-derive : goal.decreases-derive
decreases-derive l = 3 * l.i + 2

abbrev pub decreases-left_of : goal.decreases-left_of
decreases-left_of l = 3 * l.i + 1

abbrev pub decreases-left_of_cat : goal.decreases-left_of_cat
decreases-left_of_cat l = 3 * l.i
