use Rattle.ts_domain.proofs.Stretches.{piece_reach}
use Rattle.ts_domain.proofs.pieces.end_in.Goals as goal

pub returns-clause-all : goal.returns-clause-all
returns-clause-all c =
    piece_reach c.args.ranges.now c.args.piece c.args.v c.range_end.result c.min.result c.requires.apart c.requires.piece c.ranges.v
    (record { sfits = c.range_end.type_inv }) (record { sfits = c.min.type_inv }) c.if-v-piece.false c.min.ensures.value c.range_end.ensures.all
