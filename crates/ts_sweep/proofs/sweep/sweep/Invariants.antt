use Rattle.std.proofs.Common.{◌≡◌, ◌+◌, ◌-◌, length}
use Rattle.ts_sweep.proofs.Merges.{IsMergedTo}
use denote.Param.{number}
use Rattle.ts_sweep.specs.contracts.sweep.sweep.{UP-type}
use Rattle.ts_sweep.proofs.sweep.sweep.Given as goal

abbrev pub decreases-loop-k : goal.decreases-loop-k
decreases-loop-k g l = (l.n - l.at) + (l.m - l.k)

abbrev pub invariant-loop-k : goal.invariant-loop-k
invariant-loop-k g l =
    IsMergedTo g.H.Hull.both g.C.Column.taking g.H.Hull.none g.C.Column.blank
    (UP-type (number g.row.UP) g.row.H g.row.F g.row.V g.row.W g.row.C g.row.C-Item) l.twin (g.F.Fronts.front l.by)
    (g.F.Fronts.closing l.by) (g.C.Column.hulls l.from l.before) (g.V.Values.value l.values) (g.W.Values.value l.next_values) l.n l.m l.at l.k l.run
    (g.C.Column.column l.to l.initial.next) (g.C.Column.column l.to l.next)
    × (l.n ≡ g.V.Values.len l.values) × (l.m ≡ g.W.Values.len l.next_values) × g.F.Fronts.closable l.by l.run
    × g.C.Column.beside l.to l.initial.next l.next × (length (g.C.Column.column l.to l.next) ≡ l.m)
    × g.C.Column.whole l.to l.next
