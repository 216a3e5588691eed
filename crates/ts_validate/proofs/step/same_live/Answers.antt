use Rattle.ts_validate.proofs.Looking.{same_yes, same_no}
use Rattle.ts_validate.proofs.step.same_live.Goals as goal

pub returns-then-listed-kept : goal.returns-then-listed-kept
returns-then-listed-kept c =
    same_yes c.args.table.now c.args.phase c.args.free c.args.listed.now c.args.kept.now c.each_same.result c.each_same.ensures c.if-listed-kept.true

pub returns-else-listed-kept : goal.returns-else-listed-kept
returns-else-listed-kept c = same_no c.args.table.now c.args.phase c.args.free c.args.listed.now c.args.kept.now c.if-listed-kept.false
