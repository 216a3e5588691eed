use Rattle.ts_glue.specs.Machines.{forward_of, window_of}
use Rattle.ts_machine_tests.proofs.TableRows.{looked_ahead}
use Rattle.ts_machine_tests.proofs.told.ahead_holds.Goals as goal

pub row_holds-requires : goal.row_holds-requires
row_holds-requires c =
    looked_ahead (forward_of c.args.m.now) (window_of c.args.m.now) c.args.cells.now.present c.in_ok-table.table c.args.k
    c.in_ok-table.ensures c.requires.looks c.requires.cell.0 c.requires.cell.1
