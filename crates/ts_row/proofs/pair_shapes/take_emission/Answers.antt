use Rattle.std.specs.Prelude.{IfSome}
use Rattle.std.proofs.Common.{rules, subst}
use Rattle.ts_automaton.specs.Body.{move_of}
use Rattle.ts_row.specs.Plans.{AreOperatorsOf}
use Rattle.ts_row.proofs.PairShapes.{are_emitted}
use Rattle.ts_row.proofs.pair_shapes.take_emission.Goals as goal
use Rattle.ts_sweep.specs.Sides.{has_wide}

pub take_begun-requires : goal.take_begun-requires
take_begun-requires g c =
    let is = subst (λ o. IfSome o (AreOperatorsOf (has_wide g.row.N) (move_of c.args.turn.now))) c.in-Some.is c.requires.operators in
    let fit = are_emitted g.row.N c.args.t.now (record { turn = c.args.turn; ranges = c.in-Some.found.ranges; cells = c.in-Some.found.cells })
    c.requires.covered is (c.is_plain.ensures c.if-is_plain.true) (c.are_begun.ensures c.if-are_begun.true) in
    (search rules, (search rules, (c.requires.covered, (c.requires.width, (c.requires.suits, (is.0, (is.1, (fit, c.requires.next_packed))))))))
