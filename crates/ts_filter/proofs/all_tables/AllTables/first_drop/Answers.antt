use Rattle.std.proofs.Common.{◌≡◌, Some, option_map, slice_get, subst, sym}
use Rattle.ts_bound.specs.TermSpans.{value_span}
use Rattle.ts_filter.specs.KeptCells.{Tells}
use Rattle.ts_filter.proofs.Refuting.{none_of_term}
use Rattle.ts_filter.proofs.SparedLaws.{kept_of_own}
use Rattle.ts_filter.proofs.all_tables.AllTables.first_drop.Goals as goal

pub returns-in-None-clause-found : goal.returns-in-None-clause-found
returns-in-None-clause-found g c = λ a has t h.
    none_of_term c.args.requirements.now c.args.term (value_span a t.cell c.args.cells.now.present t.value) t.require
    c.in-None.ensures h.0.refuting

pub drop_by-requires-clause-kept : goal.drop_by-requires-clause-kept
drop_by-requires-clause-kept g c = λ a has.
    kept_of_own c.in-Some.own c.args.requirements.now c.args.term a c.args.cells.now.present (option_map (λ t. t.now) c.args.kept)
    c.in-Some.ensures.0 c.in-Some.ensures.1
    (c.requires.kept a (subst (λ i. slice_get c.args.self.now.machines i ≡ Some a) c.in-Some.ensures.1 has))

pub drop_by-requires-clause-spares : goal.drop_by-requires-clause-spares
drop_by-requires-clause-spares g c = λ a has.
    let own = c.in-Some.own in let b = c.args.cells.now.present in
    subst (λ z. Tells g.S.Spares.knows z own.term a b c.args.spares.now) (sym c.in-Some.ensures.0)
    (subst (λ z. Tells g.S.Spares.knows c.args.requirements.now z a b c.args.spares.now) (sym c.in-Some.ensures.1)
    (c.requires.spares a (subst (λ i. slice_get c.args.self.now.machines i ≡ Some a) c.in-Some.ensures.1 has)))
