use Rattle.ts_domain.specs.Pieces.{values_in}
use Rattle.ts_domain.specs.Values.{values_of}
use Rattle.ts_domain.proofs.MarkPlaces.{counted_between}
use Rattle.ts_domain.proofs.pieces.count_between.Goals as goal

pub overflow_sub-result : goal.overflow_sub-result
overflow_sub-result c =
    (counted_between c.args.t c.args.u (values_in (values_of c.args.ranges.now.items.items) c.args.piece) c.count_up_to.result c.count_up_to-2.result
    c.ranges.t c.ranges.u c.requires.rising c.count_up_to.ensures c.count_up_to-2.ensures).0

pub returns : goal.returns
returns c =
    (counted_between c.args.t c.args.u (values_in (values_of c.args.ranges.now.items.items) c.args.piece) c.count_up_to.result c.count_up_to-2.result
    c.ranges.t c.ranges.u c.requires.rising c.count_up_to.ensures c.count_up_to-2.ensures).1
