use Rattle.std.specs.Prelude.{◌≡◌, ◌≤◌}
use Rattle.ts_domain.specs.Values.{run}
use Rattle.ts_bound.proofs.cell_values.take_run.Given as goal

abbrev pub invariant-loop-i : goal.invariant-loop-i
invariant-loop-i l = (l.values.items ≡ run l.low l.i) × (l.values.len ≡ l.i) × (l.count ≤ l.values.cap)
