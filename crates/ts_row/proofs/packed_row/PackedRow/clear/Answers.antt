use Rattle.ts_row.proofs.Columns.{are_cleared, cleared_items}
use Rattle.ts_row.proofs.packed_row.PackedRow.clear.Goals as goal

pub returns : goal.returns
returns g c =
    let all = c.in-Some.all in
    are_cleared g.row.N c.args.states c.args.count all c.resize.new.self.items c.in-Some.ensures.1
    (cleared_items g.row.N all c.nothing.result c.clear.new.self.items c.resize.new.self.items _
    c.clear.ensures.items c.clear.ensures.len c.in_ok-resize.ensures.items c.nothing.ensures)
