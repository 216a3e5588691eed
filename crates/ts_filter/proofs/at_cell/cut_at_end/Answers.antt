use Rattle.std.proofs.Common.{◌↔◌, IsTrue, length, subst}
use Rattle.std.specs.Prelude.{IfOk}
use Rattle.ts_bound.specs.TermSpans.{Automata, term_span}
use Rattle.ts_filter.specs.Excluded.{Cuts}
use Rattle.ts_filter.proofs.at_cell.cut_at_end.Goals as goal

pub excluded_at-requires-clause-known : goal.excluded_at-requires-clause-known
excluded_at-requires-clause-known c = c.new.ensures.known _

pub returns : goal.returns
returns c =
    let b = c.args.cells.now.present in
    subst (λ (a : Automata). IfOk c.excluded_at.result (λ told. IsTrue told ↔ Cuts c.args.goal c.args.bar (term_span a (length b) b)))
    c.new.ensures.machine
    (subst (λ n. IfOk c.excluded_at.result (λ told. IsTrue told ↔ Cuts c.args.goal c.args.bar (term_span c.new.result.machine n b)))
    c.cells-n.ensures.count c.excluded_at.ensures.answered)
