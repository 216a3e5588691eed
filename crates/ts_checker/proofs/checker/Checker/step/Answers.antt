use Rattle.std.proofs.lemmas.Result.{on_ok_weaker}
use Rattle.ts_certificate.specs.Seen.{line_seen}
use Rattle.ts_model.specs.Views.{model_parts}
use Rattle.ts_checker.specs.Standings.{stand_of}
use Rattle.ts_checker.proofs.Fed.{said_values, step_judged}
use Rattle.ts_checker.proofs.checker.Checker.step.Goals as goal

pub judge-requires : goal.judge-requires
judge-requires c = said_values c.self.inside.reader c.args.line.now c.in-Ok.parsed c.in-Ok.ensures.answer

pub returns-in-Ok-clause-takes : goal.returns-in-Ok-clause-takes
returns-in-Ok-clause-takes c =
    let inside = c.self.inside in
    on_ok_weaker c.judge.result
    (step_judged (model_parts inside.model) inside.reader c.line.new.self (stand_of inside.standing) inside.failed inside.missing c.args.self.now
    c.judge.new.self c.args.line.now (line_seen c.in-Ok.parsed) c.next_line-number.result c.self.view_is (c.in-Ok.ensures.reading (λ e. cc))
    c.in-Ok.ensures.answer c.next_line-number.ensures c.judge.ensures.model c.judge.ensures.reading c.judge.ensures.calm)
    c.judge.ensures.takes
