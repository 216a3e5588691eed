use Rattle.std.proofs.Common.{true, false, refl}
use Rattle.ts_user.proofs.Steps.{entry_told}
use Rattle.ts_user.proofs.step.KeptEntries.add.Goals as goal

pub returns-in_ok-push-clause-added : goal.returns-in_ok-push-clause-added
returns-in_ok-push-clause-added c =
    entry_told false c.args.self.now.live.items c.push.new.self.items c.args.self.now.numbers.keys c.args.residual c.args.tag c.in_ok-insert.field-0
    c.requires c.in_ok-insert.ensures.added c.if-branch.true c.in_ok-push.ensures.items

pub returns-else-branch-clause-added : goal.returns-else-branch-clause-added
returns-else-branch-clause-added c =
    entry_told true c.args.self.now.live.items c.args.self.now.live.items c.args.self.now.numbers.keys c.args.residual c.args.tag c.in_ok-insert.field-0
    c.requires c.in_ok-insert.ensures.added c.if-branch.false refl
