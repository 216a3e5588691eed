use Rattle.std.proofs.Common.{◌∙◌}
use Rattle.ts_filter.specs.KeptValue.{IsKept}
use Rattle.ts_filter.proofs.TermsAsked.{rows_after, same_after, told_of}
use Rattle.ts_filter.proofs.all_tables.AllTables.kept_value.Goals as goal

pub invariant_of-self : goal.invariant_of-self
invariant_of-self c =
    let b = c.args.cells.now.present in
    rows_after c.self.inside.each.items c.self.view_is c.requires.there c.index_mut-tables.ensures.value b c.leave.new.self c.self.invariant c.requires.on
    (c.leave.ensures.known b c.kept_value-kept.ensures.known.known)

pub returns-clause-same : goal.returns-clause-same
returns-clause-same c =
    same_after c.self.inside.each.items c.self.view_is c.requires.there c.index_mut-tables.ensures.value c.leave.new.self
    (c.leave.ensures.machine ∙ c.kept_value-kept.ensures.known.machine)

pub returns-clause-kept : goal.returns-clause-kept
returns-clause-kept c =
    let b = c.args.cells.now.present in
    told_of c.self.inside.each.items c.self.view_is c.requires.there c.index_mut-tables.ensures.value
    (λ a v. IsKept a c.args.goal c.args.k b v) c.kept_value-kept.result c.kept_value-kept.ensures.kept
