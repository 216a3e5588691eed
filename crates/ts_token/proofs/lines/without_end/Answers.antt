use Rattle.std.proofs.Common.{sym, ap, ◌∙◌, arith}
use Rattle.ts_token.specs.Steps.{bare_by}
use Rattle.ts_token.proofs.EndLaws.{end_shorter}
use Rattle.ts_token.proofs.lines.without_end.Goals as goal

pub returns-in-Some-clause-value : goal.returns-in-Some-clause-value
returns-in-Some-clause-value c = c.without_cr.ensures.value ∙ ap (bare_by c.args.line.now) (sym c.in-Some.ensures)

pub returns-in-Some-clause-within : goal.returns-in-Some-clause-within
returns-in-Some-clause-within c = omega (arith, c.without_cr.ensures.within, end_shorter c.args.line.now c.in-Some.front.now c.in-Some.ensures)

pub returns-in-None-clause-value : goal.returns-in-None-clause-value
returns-in-None-clause-value c = ap (bare_by c.args.line.now) (sym c.in-None.ensures)
