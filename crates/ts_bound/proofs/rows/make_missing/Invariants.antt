use Rattle.std.proofs.Common.{◌≡◌, ◌-◌, length}
use Rattle.ts_bound.specs.BoxRows.{AreRows}
use Rattle.ts_bound.specs.Reading.{IsBefore, cells_read}
use Rattle.ts_bound.proofs.rows.make_missing.Given as goal

abbrev pub invariant-loop-alloc : goal.invariant-loop-alloc
invariant-loop-alloc l =
    AreRows l.a (cells_read l.reading) l.rows × IsBefore (cells_read l.reading) (length l.rows.known) l.lists.before
    × (l.rows.planned ≡ l.fn.rows.planned)

abbrev pub decreases-loop-alloc : goal.decreases-loop-alloc
decreases-loop-alloc l = l.count - length l.rows.known
