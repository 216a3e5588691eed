use Rattle.ts_sweep.proofs.moves.are_for.Goals as goal

pub returns-else-has_both : goal.returns-else-has_both
returns-else-has_both g c = λ is. c.are_narrow.ensures is g.H.Packed.sides
