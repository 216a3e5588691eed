use Rattle.std.proofs.Common.{◌≡◌, ◌+◌, ◌-◌, length}
use Rattle.ts_sweep.proofs.EqualSteps.{IsEqualTo}
use Rattle.ts_sweep.proofs.equal.sweep_equal.Given as goal

abbrev pub decreases-loop-at : goal.decreases-loop-at
decreases-loop-at g l = (l.n - l.at) + (l.m - l.k)

abbrev pub invariant-loop-at : goal.invariant-loop-at
invariant-loop-at g l =
    IsEqualTo g.H.Hull.both g.C.Column.taking g.H.Hull.none g.C.Column.blank (g.F.Fronts.front l.by) (g.F.Fronts.closing l.by)
    (g.C.Column.hulls l.from l.before) (g.V.Values.value l.values) (g.W.Values.value l.next_values) l.n l.m l.at l.k
    (g.C.Column.column l.to l.initial.next) (g.C.Column.column l.to l.next)
    × (l.n ≡ g.V.Values.len l.values) × (l.m ≡ g.W.Values.len l.next_values)
    × g.C.Column.beside l.to l.initial.next l.next × (length (g.C.Column.column l.to l.next) ≡ l.m)
    × g.C.Column.whole l.to l.next
