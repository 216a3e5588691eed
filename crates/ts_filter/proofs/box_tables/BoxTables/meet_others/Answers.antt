use Rattle.std.proofs.Common.{◌-◌, ap, rules}
use Rattle.ts_filter.proofs.ChangedTables.{change_there, none_differs, seen_there}
use Rattle.ts_filter.proofs.box_tables.BoxTables.meet_others.Goals as goal

pub changed-requires-clause-change : goal.changed-requires-clause-change
changed-requires-clause-change c =
    change_there c.args.others.now.each.items c.args.seen.now c.args.cells.now.present c.args.self.now c.requires.others c.requires.looks
    (c.ends-first.result.0 - 1) c.ends-first.result.1 (ap (λ k. k - 1) c.ends-first.ensures.first) c.ends-first.ensures.last
    c.in-Some.change c.in-Some.ensures _ (search rules)

pub returns-in-Some-clause-known : goal.returns-in-Some-clause-known
returns-in-Some-clause-known c = λ known.
    c.changed.ensures.known
    (seen_there c.args.others.now.each.items c.args.seen.now c.args.cells.now.present c.args.self.now c.requires.others c.requires.looks
    (c.ends-first.result.0 - 1) c.ends-first.result.1 (ap (λ k. k - 1) c.ends-first.ensures.first) c.ends-first.ensures.last
    _ (search rules) known)

pub returns-in-None-clause-known : goal.returns-in-None-clause-known
returns-in-None-clause-known c =
    none_differs c.args.others.now.each.items c.args.seen.now c.args.cells.now.present c.args.self.now c.requires.others c.requires.looks
    (c.ends-first.result.0 - 1) c.ends-first.result.1 (ap (λ k. k - 1) c.ends-first.ensures.first) c.ends-first.ensures.last c.in-None.ensures
