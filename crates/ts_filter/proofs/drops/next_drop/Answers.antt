use Rattle.std.proofs.Common.{map, sym, subst, arith, ◌+◌}
use Rattle.ts_bound.specs.TermSpans.{automata_of}
use Rattle.ts_filter.specs.Drops.{IsFirstOf}
use Rattle.ts_filter.proofs.DropLaws.{DropBelow, first_below_more, first_of_all, machine_looks, machine_there}
use Rattle.ts_filter.proofs.drops.next_drop.Goals as goal

pub drop_of_term-requires-clause-looks : goal.drop_of_term-requires-clause-looks
drop_of_term-requires-clause-looks c =
    let ms = c.args.machines.now in let b = c.args.cells.now.present in
    machine_looks b ms c.loop-term.term c.index-machines-term.result c.requires.looks c.loop-term-test.true c.index-machines-term.is

pub loop-term-preserved : goal.loop-term-preserved
loop-term-preserved c =
    let rs = c.args.requirements.now in let ms = c.args.machines.now in let b = c.args.cells.now.present in
    subst (λ x. IsFirstOf (DropBelow rs (map automata_of ms) b (c.loop-term.term + 1)) x) (sym c.earlier-first.ensures)
    (first_below_more rs (map automata_of ms) b c.loop-term.term (automata_of c.index-machines-term.result)
    (machine_there ms c.loop-term.term c.index-machines-term.result c.loop-term-test.true c.index-machines-term.is)
    (machine_looks b ms c.loop-term.term c.index-machines-term.result c.requires.looks c.loop-term-test.true c.index-machines-term.is)
    c.loop-term.first c.in_ok-found.found c.last_asked-last.result c.last_asked-last.ensures c.loop-term.invariant c.in_ok-found.ensures)

pub returns : goal.returns
returns c =
    first_of_all c.args.requirements.now (map automata_of c.args.machines.now) c.args.cells.now.present c.loop-term.term _ c.loop-term.first c.requires.terms
    (omega (arith, c.loop-term-test.false)) c.loop-term.invariant
