use Rattle.ts_domain.proofs.CutLaws.{above_whole, above_some, above_cut, above_none}
use Rattle.ts_domain.proofs.cut.above.Goals as goal

pub returns-then-t-piece : goal.returns-then-t-piece
returns-then-t-piece c = above_whole c.args.ranges.now c.args.piece c.args.t c.requires.apart c.requires.piece c.ranges.t c.if-t-piece.true

pub first_from-requires-clause-some : goal.first_from-requires-clause-some
first_from-requires-clause-some c =
    above_some c.args.ranges.now c.args.piece c.args.t c.requires.apart c.requires.piece c.ranges.t c.if-t-piece.false c.if-t-piece-2.true

pub returns-then-t-piece-2 : goal.returns-then-t-piece-2
returns-then-t-piece-2 c =
    above_cut c.args.ranges.now c.args.piece c.args.t c.first_from.result c.requires.apart c.requires.piece c.ranges.t c.if-t-piece.false
    c.if-t-piece-2.true (record { sfits = c.first_from.type_inv })
    c.first_from.ensures

pub returns-else-t-piece-2 : goal.returns-else-t-piece-2
returns-else-t-piece-2 c = above_none c.args.ranges.now c.args.piece c.args.t c.requires.apart c.requires.piece c.ranges.t c.if-t-piece-2.false
