use Rattle.std.proofs.Common.{IfOk, subst, sym}
use Rattle.ts_bound.specs.TermSpans.{Automata, LooksIn, automata_of, value_span}
use Rattle.ts_filter.specs.Drops.{IsFirstOf}
use Rattle.ts_filter.specs.TermDrops.{IsDropUpTo}
use Rattle.ts_filter.proofs.Refuting.{none_of_term}
use Rattle.ts_filter.proofs.SparedLaws.{nothing_told}
use Rattle.ts_filter.proofs.drops.drop_of_term.Goals as goal

pub first_drop-requires-clause-known : goal.first_drop-requires-clause-known
first_drop-requires-clause-known c = c.new-tables.ensures.known _

pub returns-in-Some : goal.returns-in-Some
returns-in-Some c =
    let rs = c.args.requirements.now in let b = c.args.cells.now.present in let a = c.new-tables.result.machine in
    subst (λ (z : Automata). IfOk c.first_drop.result (IsFirstOf (IsDropUpTo rs c.args.term z b c.args.last))) c.new-tables.ensures.machine
    (subst (λ z. IfOk c.first_drop.result (IsFirstOf (IsDropUpTo rs z a b c.args.last))) c.in-Some.ensures.1
    (subst (λ z. IfOk c.first_drop.result (IsFirstOf (IsDropUpTo z c.in-Some.own.term a b c.args.last))) c.in-Some.ensures.0 c.first_drop.ensures.found))

pub returns-in-None : goal.returns-in-None
returns-in-None c = λ t h.
    none_of_term c.args.requirements.now c.args.term (value_span (automata_of c.args.machine.now) t.cell c.args.cells.now.present t.value) t.require
    c.in-None.ensures h.0.refuting

pub first_drop-requires-clause-spares : goal.first_drop-requires-clause-spares
first_drop-requires-clause-spares c =
    let a = c.new-tables.result.machine in let b = c.args.cells.now.present in
    nothing_told _ c.in-Some.own.all.now c.in-Some.own.term a b _ (λ s. tt)
    (subst (λ (z : Automata). LooksIn z b) (sym c.new-tables.ensures.machine) c.requires.looks)
