use Rattle.std.proofs.Common.{refl}
use Rattle.ts_model.specs.Views.{model_parts}
use Rattle.ts_checker.proofs.Fed.{whole_seen, box_seen}
use Rattle.ts_checker.proofs.Verdicts.{verdict_given, accepted_true}
use Rattle.ts_checker.proofs.checker.Checker.finish.Goals as goal

pub returns-clause-verdict : goal.returns-clause-verdict
returns-clause-verdict c = λ texts h. verdict_given texts c.args.self c.verdict.result c.verdict.ensures h

pub returns-clause-holds : goal.returns-clause-holds
returns-clause-holds c = λ texts h e.
    accepted_true c.args.self.model texts c.verdict.result
    (whole_seen (model_parts c.self.inside.model) _ c.args.self refl c.self.view_is c.self.invariant.0.whole)
    (box_seen (model_parts c.self.inside.model) _ c.args.self refl c.self.view_is c.self.invariant.1) e
    (verdict_given texts c.args.self c.verdict.result c.verdict.ensures h)
