use Rattle.ts_domain.proofs.CutLaws.{up_whole, up_cut, up_none}
use Rattle.ts_domain.proofs.cut.up_to.Goals as goal

pub returns-then-piece-t : goal.returns-then-piece-t
returns-then-piece-t c = up_whole c.args.ranges.now c.args.piece c.args.t c.requires.apart c.requires.piece c.ranges.t c.if-piece-t.true

pub returns-then-piece-t-2 : goal.returns-then-piece-t-2
returns-then-piece-t-2 c =
    up_cut c.args.ranges.now c.args.piece c.args.t c.last_up_to.result c.requires.apart c.requires.piece c.ranges.t c.if-piece-t.false c.if-piece-t-2.true
    (record { sfits = c.last_up_to.type_inv })
    c.last_up_to.ensures

pub returns-else-piece-t-2 : goal.returns-else-piece-t-2
returns-else-piece-t-2 c = up_none c.args.ranges.now c.args.piece c.args.t c.requires.apart c.requires.piece c.ranges.t c.if-piece-t-2.false
