use Rattle.std.proofs.Common.{reverse, ap}
use Rattle.std.proofs.lemmas.Int.{to_z-of_z}
use mir.Syntax.{w64}
use Rattle.ts_domain.specs.Kept.{values_up_to}
use Rattle.ts_frontier.proofs.Trailed.{cell_is, some_stay, split_fits_at, split_boxes_at}
use Rattle.ts_frontier.proofs.frontier.Frontier.split.Goals as goal

pub keep_low-requires-clause-cell : goal.keep_low-requires-clause-cell
keep_low-requires-clause-cell c =
    cell_is c.self.inside.boxed c.self.inside.ready (reverse c.self.inside.uppers.items) _ c.args.k c.self.view_is c.requires.ready c.requires.cell

pub keep_low-requires-clause-stays : goal.keep_low-requires-clause-stays
keep_low-requires-clause-stays c =
    some_stay c.self.inside.boxed c.self.inside.ready (reverse c.self.inside.uppers.items) _ c.args.k (values_up_to c.args.t) _ c.self.view_is
    c.requires.ready (ap values_up_to (to_z-of_z w64 c.args.t c.ranges.t)) c.requires.low

pub invariant_of-self-2 : goal.invariant_of-self-2
invariant_of-self-2 c =
    split_fits_at c.self.inside.boxed c.keep_low.new.self c.self.inside.ready c.self.inside.uppers.items _ c.push_reserved.new.self.items _
    c.args.k _ c.args.t _ c.self.view_is c.requires.ready c.self.invariant c.in_ok-keep_low.ensures.ok c.in_ok-reserve.ensures.items
    c.push_reserved.ensures.items c.mark-mark.ensures (to_z-of_z w64 c.args.t c.ranges.t) c.requires.cell c.requires.high

pub returns-clause-ok : goal.returns-clause-ok
returns-clause-ok c =
    split_boxes_at c.self.inside.boxed c.keep_low.new.self c.self.inside.ready c.self.inside.uppers.items _ c.push_reserved.new.self.items _
    c.args.k _ c.args.t _ c.self.view_is c.requires.ready c.self.invariant c.in_ok-keep_low.ensures.ok c.in_ok-reserve.ensures.items
    c.push_reserved.ensures.items c.mark-mark.ensures (to_z-of_z w64 c.args.t c.ranges.t)
