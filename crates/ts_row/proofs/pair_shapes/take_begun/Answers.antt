use Rattle.std.proofs.Common.{rules}
use Rattle.ts_automaton.specs.Body.{move_of}
use Rattle.ts_row.proofs.PairShapes.{are_begun, wide_emission}
use Rattle.ts_row.proofs.pair_shapes.take_begun.Goals as goal

pub spread-requires : goal.spread-requires
spread-requires g c =
    let begun = are_begun g.row.N c.args.by _ _ c.in-Some.ensures.0 c.requires.fit in
    (search rules, (search rules, (c.requires.covered, (c.in-Some.ensures.0, (begun, c.requires.next_packed)))))

pub returns-in-Some-clause-moved : goal.returns-in-Some-clause-moved
returns-in-Some-clause-moved g c =
    c.spread.ensures.moved (move_of c.args.by.turn.now)
    (wide_emission _ _ c.in-Some.greatest _ _ c.requires.made c.in-Some.ensures.0 (c.requires.one c.in-Some.ensures.0) c.in-Some.ensures.1)
