use Rattle.std.proofs.Common.{arith, rules}
use Rattle.std.proofs.lemmas.Int.{ints}
use Rattle.ts_domain.proofs.BoxLaws.{low_stays, high_stays, other_stays}
use Rattle.ts_machine_tests.proofs.boxes.change.Goals as goal

pub keep_low-requires-clause-stays : goal.keep_low-requires-clause-stays
keep_low-requires-clause-stays c = low_stays c.args.cells.now c.args.k _ _ _ c.cell.ensures (c.contains.ensures.0 (search rules)) (grind (arith, ints))

pub keep_high-requires-clause-stays : goal.keep_high-requires-clause-stays
keep_high-requires-clause-stays c = high_stays c.args.cells.now c.args.k _ _ _ c.cell.ensures (c.contains.ensures.0 (search rules)) (grind (arith, ints))

pub remove-requires-clause-stays : goal.remove-requires-clause-stays
remove-requires-clause-stays c = other_stays c.args.cells.now c.args.k _ _ _ c.cell.ensures (c.contains.ensures.0 (search rules)) (λ e. grind (arith, ints))
