use Rattle.ts_model.specs.Views.{model_parts}
use Rattle.ts_spans.specs.Machines.{spans_in}
use Rattle.ts_checker.specs.Subjects.{head_in}
use Rattle.ts_checker.proofs.RuleLaws.{line_answered}
use Rattle.ts_checker.proofs.rules.keeps_rule.Goals as goal

pub returns-in-No-clause-keeps : goal.returns-in-No-clause-keeps
returns-in-No-clause-keeps c =
    line_answered (model_parts c.args.model.now) (spans_in (model_parts c.args.model.now)) (head_in c.args.head.now) c.args.head.now.reported
    c.args.b.now.present c.args.line _ c.is_refuted.result c.in-No.is c.is_refuted.ensures.keeps

pub returns-in-Worse-clause-keeps : goal.returns-in-Worse-clause-keeps
returns-in-Worse-clause-keeps c =
    line_answered (model_parts c.args.model.now) (spans_in (model_parts c.args.model.now)) (head_in c.args.head.now) c.args.head.now.reported
    c.args.b.now.present c.args.line _ c.may_be_worse.result c.in-Worse.is c.may_be_worse.ensures.keeps
