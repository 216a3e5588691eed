use Rattle.std.proofs.Common.{arith}
use Rattle.ts_domain.proofs.Counts.{piece_count}
use Rattle.ts_domain.proofs.pieces.count_in.Goals as goal

pub overflow_sub-result : goal.overflow_sub-result
overflow_sub-result c =
    (piece_count c.args.ranges.now.items.items c.args.piece c.place_of-first.result c.place_of-last.result c.requires.apart c.requires.piece
    c.place_of-first.ensures c.place_of-last.ensures).0

pub overflow_add-result : goal.overflow_add-result
overflow_add-result c =
    let small = (piece_count c.args.ranges.now.items.items c.args.piece c.place_of-first.result c.place_of-last.result c.requires.apart c.requires.piece
    c.place_of-first.ensures c.place_of-last.ensures).1 in
    omega (arith, small)

pub returns : goal.returns
returns c =
    (piece_count c.args.ranges.now.items.items c.args.piece c.place_of-first.result c.place_of-last.result c.requires.apart c.requires.piece
    c.place_of-first.ensures c.place_of-last.ensures).2
