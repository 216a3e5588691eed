use Rattle.std.proofs.Common.{◌<◌, length, rules}
use Rattle.ts_filter.specs.Boxes.{values_at}
use Rattle.ts_machine_tests.proofs.Singles.{single_kept}
use Rattle.ts_machine_tests.proofs.told.kept_cells.keep_single.Goals as goal

pub returns-then-size-lt2-clause-kept : goal.returns-then-size-lt2-clause-kept
returns-then-size-lt2-clause-kept c =
    let b = c.args.cells.now.present in
    let few : length (values_at c.args.k b) < 2 = search rules in
    single_kept b c.args.k _ c.args.kept.now c.keep_cell.new.self c.keep_cell.ensures c.requires.cell.0 few c.requires.kept
