use Rattle.std.proofs.Common.{◌≤◌, length, rules, subst}
use Rattle.std.specs.List.{All}
use Rattle.ts_bound.specs.declared.any_row.AnyRow.{AnyRow}
use Rattle.ts_bound.specs.AnyRows.{columns}
use Rattle.ts_bound.proofs.any_row.AnyRow.part.Goals as goal

pub part-requires : goal.part-requires
part-requires c =
    let inside = subst (λ (z : AnyRow). All (λ column. c.args.to ≤ length column) (columns z)) c.in-Narrow.is c.requires.inside in
    (search rules, (search rules, (c.requires.order, inside)))

pub part-requires-in-Upper : goal.part-requires-in-Upper
part-requires-in-Upper c =
    let inside = subst (λ (z : AnyRow). All (λ column. c.args.to ≤ length column) (columns z)) c.in-Upper.is c.requires.inside in
    (search rules, (search rules, (c.requires.order, inside)))

pub part-requires-in-Lower : goal.part-requires-in-Lower
part-requires-in-Lower c =
    let inside = subst (λ (z : AnyRow). All (λ column. c.args.to ≤ length column) (columns z)) c.in-Lower.is c.requires.inside in
    (search rules, (search rules, (c.requires.order, inside)))

pub part-requires-in-Wide : goal.part-requires-in-Wide
part-requires-in-Wide c =
    let inside = subst (λ (z : AnyRow). All (λ column. c.args.to ≤ length column) (columns z)) c.in-Wide.is c.requires.inside in
    (search rules, (search rules, (c.requires.order, inside)))
