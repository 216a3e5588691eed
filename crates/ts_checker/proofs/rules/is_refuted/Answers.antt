use Rattle.ts_model.specs.Views.{model_parts}
use Rattle.ts_checker.proofs.RuleLaws.{all_look, asked_stands, box_looks, brought, refuted_answered, usable_cell}
use Rattle.ts_checker.proofs.rules.is_refuted.Goals as goal

pub returns-clause-keeps : goal.returns-clause-keeps
returns-clause-keeps c =
    refuted_answered (model_parts c.args.model.now) c.bring.new.self.machines
    (brought (model_parts c.args.model.now) _ _ c.bring.ensures.machines c.requires.tables) c.args.b.now.present c.args.p c.args.j c.in-Some.require
    c.deref.result.now c.is_usable.result c.refuted.result c.deref.ensures.value c.in-Some.ensures c.if-not-is_usable.false c.is_usable.ensures
    c.refuted.ensures.answered

pub refuted-requires-clause-cell : goal.refuted-requires-clause-cell
refuted-requires-clause-cell c =
    let m = model_parts c.args.model.now in let r = c.in-Some.require in
    usable_cell m c.bring.new.self.machines (brought (model_parts c.args.model.now) _ _ c.bring.ensures.machines c.requires.tables) c.args.b.now.present r.term
    c.args.p c.is_usable.result
    (asked_stands m c.bring.new.self.machines (brought (model_parts c.args.model.now) _ _ c.bring.ensures.machines c.requires.tables) c.args.j r
    c.deref.result.now c.deref.ensures.value c.in-Some.ensures) c.if-not-is_usable.false
    c.is_usable.ensures

pub refuted-requires-clause-looks : goal.refuted-requires-clause-looks
refuted-requires-clause-looks c =
    box_looks (model_parts c.args.model.now) c.bring.new.self.machines
    (brought (model_parts c.args.model.now) _ _ c.bring.ensures.machines c.requires.tables) c.args.b.now.present c.requires.size c.in-Some.require.term

pub bring-requires : goal.bring-requires
bring-requires c =
    record { looks = all_look (model_parts c.args.model.now) c.args.tables.now.machines c.requires.tables c.args.b.now.present c.requires.size }
