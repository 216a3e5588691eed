use Rattle.std.proofs.Common.{length, sym, subst, ap, ◌∙◌}
use Rattle.ts_row.specs.Rows.{IsRow, columns_part}
use Rattle.ts_row.proofs.Parts.{whole_part}
use Rattle.ts_machine_tests.proofs.packed_rows.whole_row.Goals as goal

pub returns-clause-value : goal.returns-clause-value
returns-clause-value g c =
    c.part.ensures ∙ ap (λ to. columns_part 0 to c.args.row.now) c.size.ensures.size
    ∙ whole_part g.row.N (length c.args.a.now.states) (length c.args.cell.now) c.args.row.now c.requires

pub returns-clause-row : goal.returns-clause-row
returns-clause-row g c =
    subst (IsRow g.row.N (length c.args.a.now.states) (length c.args.cell.now)) (sym (returns-clause-value g c)) c.requires
