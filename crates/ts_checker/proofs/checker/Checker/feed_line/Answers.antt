use Rattle.std.proofs.Common.{◌≤◌, ◌+◌, sym, subst}
use Rattle.ts_certificate.specs.Reading.{Reading}
use Rattle.ts_certificate.proofs.CallerLemmas.{next_few}
use Rattle.ts_checker.proofs.Verdicts.{one_line_more}
use Rattle.ts_checker.proofs.checker.Checker.feed_line.Goals as goal

pub returns-in-Ok-clause-checked : goal.returns-in-Ok-clause-checked
returns-in-Ok-clause-checked c = λ texts h.
    one_line_more texts c.args.line.now c.args.self.now c.step.new.self h c.in-Ok.ensures.takes (λ none. c.requires)

pub returns-in-Ok-clause-next : goal.returns-in-Ok-clause-next
returns-in-Ok-clause-next c =
    subst (λ (r : Reading). r.next ≤ c.args.self.now.reading.next + 1) (sym c.in-Ok.ensures.takes.reading)
    (next_few c.args.self.now.reading c.args.line.now)
