use Rattle.std.proofs.Common.{arith}
use Rattle.ts_validate.proofs.Knowing.{added_none, added_more, added_all}
use Rattle.ts_validate.proofs.residuals.Residuals.of.Goals as goal

pub loop-r-init : goal.loop-r-init
loop-r-init c = added_none c.new-forms.result c.new-numbers.result.items c.new-forms.ensures.table c.new-numbers.ensures.items

pub loop-r-preserved : goal.loop-r-preserved
loop-r-preserved c =
    added_more c.loop-r.forms c.add.new.self c.loop-r.numbers.items c.push.new.self.items c.args.residuals.now c.loop-r.r-index c.in_ok-add.field-0
    c.r-item.result c.loop-r-test.true c.loop-r.invariant c.r-item.is c.in_ok-add.ensures c.in_ok-push.ensures.items

pub returns-clause-sound : goal.returns-clause-sound
returns-clause-sound c = let h = c.loop-r.invariant in record { table = h.table; there = h.there }

pub returns-clause-residuals : goal.returns-clause-residuals
returns-clause-residuals c =
    added_all c.loop-r.forms c.loop-r.numbers.items c.args.residuals.now c.loop-r.r-index (omega arith) c.loop-r.invariant
