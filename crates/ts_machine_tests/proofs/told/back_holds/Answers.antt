use Rattle.std.proofs.Common.{rules}
use Rattle.ts_glue.specs.Machines.{reverse_of, window_of}
use Rattle.ts_machine_tests.proofs.TableRows.{looked_back}
use Rattle.ts_machine_tests.proofs.told.back_holds.Goals as goal

pub row_holds-requires : goal.row_holds-requires
row_holds-requires c =
    looked_back (reverse_of c.args.m.now) (window_of c.args.m.now) c.args.cells.now.present c.in_ok-table.table c.args.k
    (search rules) c.in_ok-table.ensures c.requires.looks c.requires.cell.0 c.requires.cell.1
