use Rattle.std.proofs.Common.{◌≡◌, ℕ, ◌<◌}
use Rattle.ts_hull.specs.Hulls.{none}
use Rattle.ts_row.specs.Rows.{lanes_of, nothing}
use Rattle.ts_sweep.specs.Columns.{hull_at}
use Rattle.ts_row.proofs.state_cover.is_reached.Given as goal

abbrev pub invariant-loop-i : goal.invariant-loop-i
invariant-loop-i g l = (j : ℕ) → j < l.i → hull_at (lanes_of g.row.N) (nothing g.row.N) l.column j ≡ none
