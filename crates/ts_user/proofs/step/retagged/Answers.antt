use Rattle.std.proofs.Common.{◌∙◌, ap, take_all}
use Rattle.ts_pattern.specs.Closed.{retag_entries}
use Rattle.ts_validate.specs.Numbers.{plain_lives}
use Rattle.ts_user.specs.Numbered.{live_numbers}
use Rattle.ts_user.proofs.Steps.{tags_more, numbers_more}
use Rattle.ts_user.proofs.step.retagged.Goals as goal

pub loop-entry-preserved : goal.loop-entry-preserved
loop-entry-preserved c =
    record {
      value = tags_more c.args.phase c.args.free c.args.kept.now c.loop-entry.entry-index _ c.loop-entry.live.items c.push.new.self.items c.tag_after.result
          c.loop-entry-test.true c.loop-entry.invariant.value c.tag_after.ensures c.in_ok-push.ensures.items;
      numbers = numbers_more c.args.kept.now c.loop-entry.entry-index _ c.loop-entry.live.items c.push.new.self.items c.tag_after.result
          c.loop-entry-test.true c.loop-entry.invariant.numbers c.in_ok-push.ensures.items;
    }

pub returns-clause-value : goal.returns-clause-value
returns-clause-value c =
    c.loop-entry.invariant.value
    ∙ ap (λ z. retag_entries c.args.phase c.args.free (plain_lives z)) (take_all c.loop-entry.entry-index c.args.kept.now c.loop-entry-test.false)

pub returns-clause-numbers : goal.returns-clause-numbers
returns-clause-numbers c =
    c.loop-entry.invariant.numbers ∙ ap (λ z. live_numbers z) (take_all c.loop-entry.entry-index c.args.kept.now c.loop-entry-test.false)
