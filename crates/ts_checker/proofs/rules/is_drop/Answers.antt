use Rattle.std.proofs.Common.{refl, w64}
use Rattle.std.proofs.lemmas.Int.{to_z-of_z}
use Rattle.ts_model.specs.Views.{model_parts}
use Rattle.ts_spans.specs.Machines.{spans_in}
use Rattle.ts_checker.proofs.RuleLaws.{all_look, asked_stands, box_looks, brought, drop_answered, drop_may, drop_unusable, no_others}
use Rattle.ts_checker.proofs.rules.is_drop.Goals as goal

pub returns-then-not-has_others-clause-keeps : goal.returns-then-not-has_others-clause-keeps
returns-then-not-has_others-clause-keeps c =
    no_others (model_parts c.args.model.now).requirements (spans_in (model_parts c.args.model.now)) c.args.k c.args.v _ c.args.j c.args.b.now.present
    c.cell.result.now c.has_others.result (to_z-of_z w64 c.args.v c.ranges.v) c.cell.ensures c.if-not-has_others.true c.has_others.ensures

pub is_usable-requires : goal.is_usable-requires
is_usable-requires c =
    asked_stands (model_parts c.args.model.now) c.bring.new.self.machines
    (brought (model_parts c.args.model.now) _ _ c.bring.ensures.machines c.requires.tables) c.args.j c.in-Some.require c.deref.result.now c.deref.ensures.value
    c.in-Some.ensures

pub returns-then-not-is_usable-clause-keeps : goal.returns-then-not-is_usable-clause-keeps
returns-then-not-is_usable-clause-keeps c =
    drop_unusable (model_parts c.args.model.now) c.bring.new.self.machines
    (brought (model_parts c.args.model.now) _ _ c.bring.ensures.machines c.requires.tables) c.args.b.now.present c.args.k c.args.v c.args.j c.in-Some.require
    c.deref.result.now c.is_usable.result c.deref.ensures.value c.in-Some.ensures c.if-not-is_usable.true c.is_usable.ensures

pub refuted_value-requires-clause-there : goal.refuted_value-requires-clause-there
refuted_value-requires-clause-there c =
    asked_stands (model_parts c.args.model.now) c.bring.new.self.machines
    (brought (model_parts c.args.model.now) _ _ c.bring.ensures.machines c.requires.tables) c.args.j c.in-Some.require c.deref.result.now c.deref.ensures.value
    c.in-Some.ensures

pub returns-clause-keeps : goal.returns-clause-keeps
returns-clause-keeps c =
    drop_answered (model_parts c.args.model.now) c.bring.new.self.machines
    (brought (model_parts c.args.model.now) _ _ c.bring.ensures.machines c.requires.tables) c.args.b.now.present c.args.k c.args.v _ c.args.j c.in-Some.require
    c.deref.result.now c.cell.result.now c.is_usable.result c.refuted_value.result (to_z-of_z w64 c.args.v c.ranges.v) c.deref.ensures.value
    c.in-Some.ensures c.cell.ensures (c.if-not-has_others.ensures.0 refl) c.if-not-is_usable.false c.is_usable.ensures c.refuted_value.ensures.answered

pub returns-clause-may : goal.returns-clause-may
returns-clause-may c =
    drop_may c.args.k c.args.v _ c.args.b.now.present c.cell.result.now c.refuted_value.result (to_z-of_z w64 c.args.v c.ranges.v)
    c.has_cell.ensures.domains (c.if-not-has_cell.ensures.cell.0 refl) c.cell.ensures (c.if-not-has_others.ensures.0 refl)

pub refuted_value-requires-clause-looks : goal.refuted_value-requires-clause-looks
refuted_value-requires-clause-looks c =
    box_looks (model_parts c.args.model.now) c.bring.new.self.machines
    (brought (model_parts c.args.model.now) _ _ c.bring.ensures.machines c.requires.tables) c.args.b.now.present c.requires.size c.in-Some.require.term

pub bring-requires : goal.bring-requires
bring-requires c =
    record { looks = all_look (model_parts c.args.model.now) c.args.tables.now.machines c.requires.tables c.args.b.now.present c.requires.size }
