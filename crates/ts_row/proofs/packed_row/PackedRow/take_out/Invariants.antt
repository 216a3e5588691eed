use Rattle.std.proofs.Common.{◌<◌}
use Rattle.ts_row.proofs.Columns.{AreLess}
use Rattle.ts_row.proofs.packed_row.PackedRow.take_out.Given as goal

abbrev pub invariant-loop-q : goal.invariant-loop-q
invariant-loop-q g l =
    AreLess l.self-inside.states l.self-inside.stride l.self-inside.count l.from l.to l.fn.self l.q l.self-inside.hulls.items × (l.to < l.self-inside.count)
