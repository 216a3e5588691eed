use Rattle.ts_model.specs.Views.{model_parts}
use Rattle.ts_checker.specs.Subjects.{head_in}
use Rattle.ts_checker.proofs.RuleLaws.{all_look, box_looks, brought, objective_stands, usable_cell, worse_answered}
use Rattle.ts_checker.proofs.rules.may_be_worse.Goals as goal

pub returns-clause-keeps : goal.returns-clause-keeps
returns-clause-keeps c =
    worse_answered (model_parts c.args.model.now) c.bring.new.self.machines
    (brought (model_parts c.args.model.now) _ _ c.bring.ensures.machines c.requires.tables) c.args.b.now.present (head_in c.args.head.now) c.in-Best-Some.goal
    c.in-Best-Some.bar c.in-Some.term c.args.p c.claimed.result c.is_usable.result c.worse.result c.in-Best-Some.is-0 c.claimed.ensures
    c.in-Best-Some.is-1 c.in-Some.is c.if-not-is_usable.false c.is_usable.ensures c.worse.ensures.answered

pub worse-requires-clause-cell : goal.worse-requires-clause-cell
worse-requires-clause-cell c =
    let m = model_parts c.args.model.now in
    usable_cell m c.bring.new.self.machines (brought (model_parts c.args.model.now) _ _ c.bring.ensures.machines c.requires.tables) c.args.b.now.present
    c.in-Some.term c.args.p c.is_usable.result
    (objective_stands m c.bring.new.self.machines (brought (model_parts c.args.model.now) _ _ c.bring.ensures.machines c.requires.tables) c.in-Some.term
    c.in-Some.is) c.if-not-is_usable.false c.is_usable.ensures

pub worse-requires-clause-looks : goal.worse-requires-clause-looks
worse-requires-clause-looks c =
    box_looks (model_parts c.args.model.now) c.bring.new.self.machines
    (brought (model_parts c.args.model.now) _ _ c.bring.ensures.machines c.requires.tables) c.args.b.now.present c.requires.size c.in-Some.term

pub bring-requires : goal.bring-requires
bring-requires c =
    record { looks = all_look (model_parts c.args.model.now) c.args.tables.now.machines c.requires.tables c.args.b.now.present c.requires.size }
