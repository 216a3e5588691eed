use Rattle.std.proofs.Common.{subst, arith, rules}
use Rattle.std.specs.Prelude.{Contains}
use Rattle.std.proofs.lemmas.Int.{ints, to_z-of_z}
use mir.Syntax.{w64}
use Rattle.ts_frontier.proofs.Stays.{split_may, removal_may}
use Rattle.ts_machine_tests.proofs.waiting.fits.Goals as goal

pub returns-then-ends-t : goal.returns-then-ends-t
returns-then-ends-t c = λ above.
    split_may c.args.line.now c.args.present.now c.in-Split.k c.cells.result c.cell.result.now c.ends-ends.result.low c.ends-ends.result.high
    c.in-Split.t c.in-Split.is c.if-k-lt1.false c.if-cells-k.false c.cells.ensures.count c.cell.ensures c.ends-ends.ensures.low
    c.ends-ends.ensures.high (grind (arith, ints)) (grind (arith, ints))

pub returns-then-ends : goal.returns-then-ends
returns-then-ends c = λ has.
    removal_may c.args.line.now c.args.present.now c.in-Remove.k c.cells-else-k-lt1-2.result c.in-Remove.j c.cell-domain.result.now
    c.ends-ends-in-Remove.result.low c.ends-ends-in-Remove.result.high c.in-Remove.v c.in-Remove.is c.if-k-lt1-2.false c.if-cells-k-2.false
    c.cells-else-k-lt1-2.ensures.count c.cell-domain.ensures c.ends-ends-in-Remove.ensures.low c.ends-ends-in-Remove.ensures.high
    (grind (arith, ints))
    (subst (λ v. Contains c.cell-domain.result.now v) (to_z-of_z w64 c.in-Remove.v (search rules)) (c.contains.ensures.0 has))
