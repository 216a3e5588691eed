use Rattle.std.proofs.Common.{◌↔◌, IsTrue, subst}
use Rattle.std.specs.Prelude.{IfOk}
use Rattle.ts_bound.specs.TermSpans.{Automata, term_span}
use Rattle.ts_filter.specs.Excluded.{Cuts}
use Rattle.ts_filter.specs.declared.bar.Bar.TheVariants.{Better}
use Rattle.ts_filter.proofs.at_cell.worse.Goals as goal

pub excluded_at-requires-clause-known : goal.excluded_at-requires-clause-known
excluded_at-requires-clause-known c = c.new.ensures.known _

pub returns : goal.returns
returns c =
    subst
    (λ (a : Automata). IfOk c.excluded_at.result
    (λ told. IsTrue told ↔ Cuts c.args.goal (Better c.args.bar) (term_span a c.args.p c.args.cells.now.present)))
    c.new.ensures.machine c.excluded_at.ensures.answered
