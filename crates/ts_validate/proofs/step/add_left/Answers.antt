use Rattle.std.proofs.Common.{◌∙◌, ap}
use Rattle.ts_validate.specs.Numbers.{next_on}
use Rattle.ts_validate.proofs.LeftOver.{join_yes, join_no}
use Rattle.ts_validate.proofs.step.add_left.Goals as goal

pub returns-in_ok-push : goal.returns-in_ok-push
returns-in_ok-push c =
    join_yes c.args.table.now c.args.letter c.args.entry c.args.kept.now.items c.push.new.self.items c.deref.result.now c.next-residual.result
    c.is_new-new.result (c.next-residual.ensures ∙ ap (λ k. next_on c.args.letter k) c.look_up.ensures) c.deref.ensures.value c.is_new-new.ensures
    c.if-new.true c.in_ok-push.ensures.items

pub returns-else-new : goal.returns-else-new
returns-else-new c =
    join_no c.args.table.now c.args.letter c.args.entry c.args.kept.now.items c.deref.result.now c.next-residual.result c.is_new-new.result
    (c.next-residual.ensures ∙ ap (λ k. next_on c.args.letter k) c.look_up.ensures) c.deref.ensures.value c.is_new-new.ensures c.if-new.false
