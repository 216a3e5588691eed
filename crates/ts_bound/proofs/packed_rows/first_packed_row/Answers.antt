use Rattle.ts_bound.proofs.PackedRows.{packed_first}
use Rattle.ts_bound.proofs.packed_rows.first_packed_row.Goals as goal

pub returns : goal.returns
returns g c =
    record {
      is_row = c.in_ok-start_row.ensures.0;
      is_flat = packed_first g.row.N c.args.a.now c.args.values.values.now c.start_row.new.row c.in_ok-start_row.ensures.1;
    }
