use Rattle.std.proofs.Common.{◌-◌, length, set, sym, ap, ◌∙◌, arith}
use Rattle.ts_bound.proofs.RowLaws.{row_written}
use Rattle.ts_bound.proofs.tables.put_row.Goals as goal

pub returns : goal.returns
returns c =
    let some = c.requires.row.0 in let few = c.requires.row.1 in
    row_written c.args.table.now (c.args.k - 1) c.write_row.new.row (omega (arith, some, few)) (ap length c.write_row.ensures ∙ sym c.requires.len)
    ∙ ap (set c.args.table.now (c.args.k - 1)) c.write_row.ensures
