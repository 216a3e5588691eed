use Rattle.std.proofs.Common.{◌∙◌}
use Rattle.ts_model.specs.Views.{model_parts}
use Rattle.ts_spans.specs.Machines.{spans_in}
use Rattle.ts_checker.proofs.LineSteps.{first_sized, tree_answered, tree_may}
use Rattle.ts_checker.proofs.lines.keeps_tree.Goals as goal

pub returns-clause-keeps : goal.returns-clause-keeps
returns-clause-keeps c =
    let t = c.args.standing.now in
    tree_answered (model_parts c.args.model.now) (spans_in (model_parts c.args.model.now)) t.aim t.claim t.series.items c.deref.result.now t.frontier.boxes
    t.reported
    c.args.line c.in-Some-Some.aim c.in-Some-Some.claim c.present.result.now.present _ c.keeps_rule.result c.in-Some-Some.is-0 c.in-Some-Some.is-1
    c.deref.ensures.value c.in_ok-advance.ensures.same c.present.ensures c.keeps_rule.ensures.keeps

pub returns-clause-may : goal.returns-clause-may
returns-clause-may c =
    let t = c.args.standing.now in
    tree_may (model_parts c.args.model.now) (spans_in (model_parts c.args.model.now)) c.in-Some-Some.aim c.in-Some-Some.claim c.deref.result.now
    c.present.result.now.present (record t { frontier = c.advance.new.self }) c.args.line c.keeps_rule.result
    (c.in_ok-advance.ensures.ready ∙ c.if-not-branch.false) c.present.ensures c.deref.ensures.value c.keeps_rule.ensures.keeps c.keeps_rule.ensures.may

pub keeps_rule-requires-clause-size : goal.keeps_rule-requires-clause-size
keeps_rule-requires-clause-size c =
    first_sized (model_parts c.args.model.now) c.args.standing.now.frontier.boxes c.advance.new.self.boxes c.present.result.now.present
    c.in_ok-advance.ensures.same c.present.ensures c.requires.sized
