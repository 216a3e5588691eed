use Rattle.std.proofs.Common.{◌∙◌}
use Rattle.ts_filter.specs.Drops.{IsFirstOf}
use Rattle.ts_filter.specs.TermDrops.{IsDropUpTo}
use Rattle.ts_filter.proofs.TermsAsked.{rows_after, same_after, told_of}
use Rattle.ts_filter.proofs.all_tables.AllTables.drop_by.Goals as goal

pub invariant_of-self : goal.invariant_of-self
invariant_of-self g c =
    let b = c.args.cells.now.present in
    rows_after c.self.inside.each.items c.self.view_is c.requires.there c.index_mut-tables.ensures.value b c.leave.new.self c.self.invariant c.requires.on
    (c.leave.ensures.known b c.first_drop-found.ensures.known.known)

pub returns-clause-same : goal.returns-clause-same
returns-clause-same g c =
    same_after c.self.inside.each.items c.self.view_is c.requires.there c.index_mut-tables.ensures.value c.leave.new.self
    (c.leave.ensures.machine ∙ c.first_drop-found.ensures.known.machine)

pub returns-clause-found : goal.returns-clause-found
returns-clause-found g c =
    let b = c.args.cells.now.present in
    told_of c.self.inside.each.items c.self.view_is c.requires.there c.index_mut-tables.ensures.value
    (λ a found. IsFirstOf (IsDropUpTo c.args.own.all.now c.args.own.term a b c.args.last) found) c.first_drop-found.result c.first_drop-found.ensures.found
