use Rattle.std.proofs.Common.{subst}
use Rattle.std.specs.Prelude.{IfOk}
use Rattle.ts_bound.specs.TermSpans.{Automata}
use Rattle.ts_filter.specs.Excluded.{Refutes}
use Rattle.ts_filter.specs.FirstCell.{IsFirstCell}
use Rattle.ts_filter.proofs.first_cell.first_refuted.Goals as goal

pub first_excluded-requires-clause-known : goal.first_excluded-requires-clause-known
first_excluded-requires-clause-known c = c.new.ensures.known _

pub returns : goal.returns
returns c =
    subst
    (λ (a : Automata). IfOk c.first_excluded.result (λ found.
    IsFirstCell a (Refutes c.args.r.now.op c.args.r.now.bound) c.args.cells.now.present found))
    c.new.ensures.machine c.first_excluded.ensures.found
