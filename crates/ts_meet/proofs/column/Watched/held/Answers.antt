use Rattle.std.proofs.Common.{◌∙◌, ap, ◌||◌}
use Rattle.ts_meet.specs.Sides.{ends_in}
use Rattle.ts_meet.proofs.Watched.{under_held}
use Rattle.ts_meet.proofs.column.Watched.held.Goals as goal

pub returns : goal.returns
returns c a u =
    under_held c.args.wide c.args.operator (ends_in c.args.self.peaks) a u
    (λ h. c.are_plain_where.ensures c.if-not-are_plain_where.false (c.is_add-adds.ensures ∙ h))
    (λ h. c.are_plain_where-2.ensures c.if-not-are_plain_where-2.false h)
    (λ h. c.are_plain_where-3.ensures c.if-not-are_plain_where-3.false (ap (λ z. c.args.wide || z) c.is_add-adds.ensures ∙ h))
