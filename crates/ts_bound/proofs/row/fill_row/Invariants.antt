use Rattle.std.proofs.Common.{◌≡◌}
use Rattle.ts_hull.specs.Sweeps.{with_states}
use Rattle.ts_bound.proofs.row.fill_row.Given as goal

abbrev pub invariant-loop-q : goal.invariant-loop-q
invariant-loop-q l = l.next ≡ with_states l.a l.before_values l.before l.values l.q l.initial.next
