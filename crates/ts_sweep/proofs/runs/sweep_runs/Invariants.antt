use Rattle.std.proofs.Common.{◌+ℤ◌, pos, ◌≡◌, length}
use Rattle.ts_sweep.proofs.RunSteps.{IsAt}
use denote.Param.{number}
use Rattle.ts_sweep.specs.contracts.runs.sweep_runs.{UP-type}
use Rattle.ts_sweep.proofs.runs.sweep_runs.Given as goal

abbrev pub invariant-loop-t : goal.invariant-loop-t
invariant-loop-t g l =
    IsAt g.H.Hull.both g.C.Column.taking g.H.Hull.none g.C.Column.blank (UP-type (number g.row.UP) g.row.H g.row.F g.row.C g.row.C-Item)
    (g.F.Fronts.front l.by) (g.F.Fronts.closing l.by) (g.C.Column.hulls l.from l.before)
    (λ i. l.values.first +ℤ pos i) (λ k. l.next_values.first +ℤ pos k) l.values.count l.next_values.count l.lead.ahead l.lead.behind l.t l.run
    (g.C.Column.column l.to l.initial.next) (g.C.Column.column l.to l.next)
    × g.F.Fronts.closable l.by l.run × g.C.Column.beside l.to l.initial.next l.next
    × (length (g.C.Column.column l.to l.next) ≡ l.next_values.count) × g.C.Column.whole l.to l.next
