use Rattle.std.proofs.Common.{◌+◌, ◌*◌}
use Rattle.ts_automaton.specs.Formula.{formula, words_in}
use Rattle.ts_sweep.proofs.tree.+tree.Given as goal

abbrev pub decreases-tree_ends : goal.decreases-tree_ends
decreases-tree_ends g l = 2 * words_in (formula l.e.now)

abbrev pub decreases-joined_ends : goal.decreases-joined_ends
decreases-joined_ends g l = 2 * (words_in (formula l.a.now) + words_in (formula l.b.now)) + 1

abbrev pub decreases-less_ends : goal.decreases-less_ends
decreases-less_ends g l = 2 * (words_in (formula l.a.now) + words_in (formula l.b.now)) + 1
