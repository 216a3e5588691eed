use Rattle.std.proofs.Common.{sym, ◌∙◌}
use Rattle.ts_checker.proofs.JudgingLaws.{fails_first, refused_first}
use Rattle.ts_checker.proofs.judging.Judging.failed.Goals as goal

pub returns-in-Some : goal.returns-in-Some
returns-in-Some c = λ bytes h. refused_first bytes c.args.self.now c.in-Some.line (sym c.refused_line.ensures ∙ c.in-Some.is) h

pub returns-in-None : goal.returns-in-None
returns-in-None c = λ bytes h.
    fails_first bytes c.args.self.now c.broken_line.result (sym c.refused_line.ensures ∙ c.in-None.is) c.broken_line.ensures h
