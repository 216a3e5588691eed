use Rattle.std.proofs.Common.{reverse, ap, ◌∙◌}
use Rattle.std.proofs.lemmas.Int.{to_z-of_z}
use mir.Syntax.{w64}
use Rattle.ts_domain.specs.Kept.{values_without}
use Rattle.ts_domain.specs.BoxSeries.{box_with}
use Rattle.ts_frontier.proofs.Trailed.{cell_is, some_stay, removed_fits, removed_boxes}
use Rattle.ts_frontier.proofs.frontier.Frontier.remove.Goals as goal

pub remove-requires-clause-cell : goal.remove-requires-clause-cell
remove-requires-clause-cell c =
    cell_is c.self.inside.boxed c.self.inside.ready (reverse c.self.inside.uppers.items) _ c.args.k c.self.view_is c.requires.ready c.requires.cell

pub remove-requires-clause-stays : goal.remove-requires-clause-stays
remove-requires-clause-stays c =
    some_stay c.self.inside.boxed c.self.inside.ready (reverse c.self.inside.uppers.items) _ c.args.k (values_without c.args.v) _ c.self.view_is
    c.requires.ready (ap values_without (to_z-of_z w64 c.args.v c.ranges.v)) c.requires.stays

pub invariant_of-self-2 : goal.invariant_of-self-2
invariant_of-self-2 c =
    removed_fits c.self.inside.boxed c.remove.new.self c.self.inside.ready (reverse c.self.inside.uppers.items) _ c.args.k c.args.v c.self.view_is
    c.requires.ready c.self.invariant
    (c.in_ok-remove.ensures.ok ∙ ap (λ z. box_with c.args.k (values_without z) c.self.inside.boxed) (to_z-of_z w64 c.args.v c.ranges.v))

pub returns-clause-ok : goal.returns-clause-ok
returns-clause-ok c =
    removed_boxes c.self.inside.boxed c.remove.new.self c.self.inside.ready (reverse c.self.inside.uppers.items) _ c.args.k c.args.v c.self.view_is
    c.requires.ready c.self.invariant
    (c.in_ok-remove.ensures.ok ∙ ap (λ z. box_with c.args.k (values_without z) c.self.inside.boxed) (to_z-of_z w64 c.args.v c.ranges.v))
