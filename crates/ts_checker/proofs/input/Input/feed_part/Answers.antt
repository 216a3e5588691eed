use Rattle.std.proofs.Common.{◌++◌, subst}
use Rattle.ts_checker.specs.Feeding.{HasTaken}
use Rattle.std.proofs.lemmas.Result.{on_ok_weaker}
use Rattle.ts_checker.proofs.InputLaws.{behind_calm, behind_few, behind_goes_on, mark_taken, model_goes_on}
use Rattle.ts_checker.proofs.input.Input.feed_part.Goals as goal

pub returns-in-Behind-clause-taken : goal.returns-in-Behind-clause-taken
returns-in-Behind-clause-taken c =
    on_ok_weaker c.feed.result (behind_goes_on c.args.self.now c.in-Behind.opened c.feed.new.self c.args.part.now c.in-Behind.is) c.feed.ensures.taken

pub end_model-requires : goal.end_model-requires
end_model-requires c =
    let some = c.requires.room in (
      some.0 ++ c.args.part.now,
      mark_taken c.args.self.now c.in-InModel.text c.feed-in-InModel.new.self c.in_ok-ended-in-InModel.ended c.args.part.now some.0 c.in-InModel.is
          c.if-ended.true c.in_ok-ended-in-InModel.ensures.taken c.feed-in-InModel.ensures.need some.1,
    )

pub returns-then-ended-clause-taken : goal.returns-then-ended-clause-taken
returns-then-ended-clause-taken c =
    on_ok_weaker c.end_model.result
    (λ opens bytes h.
    opens (bytes ++ c.args.part.now)
    (mark_taken c.args.self.now c.in-InModel.text c.feed-in-InModel.new.self c.in_ok-ended-in-InModel.ended c.args.part.now bytes c.in-InModel.is
    c.if-ended.true c.in_ok-ended-in-InModel.ensures.taken c.feed-in-InModel.ensures.need h))
    c.end_model.ensures

pub returns-else-ended-clause-taken : goal.returns-else-ended-clause-taken
returns-else-ended-clause-taken c =
    model_goes_on c.args.self.now c.in-InModel.text c.feed-in-InModel.new.self c.in_ok-ended-in-InModel.ended c.args.part.now c.in-InModel.is
    c.if-ended.false c.in_ok-ended-in-InModel.ensures.taken c.feed-in-InModel.ensures.need

pub feed-requires-clause-calm : goal.feed-requires-clause-calm
feed-requires-clause-calm c =
    let some = c.requires.room in behind_calm some.0 c.in-Behind.opened (subst (HasTaken some.0) c.in-Behind.is some.1)

pub feed-requires-clause-few : goal.feed-requires-clause-few
feed-requires-clause-few c =
    let some = c.requires.room in behind_few some.0 c.in-Behind.opened _ (subst (HasTaken some.0) c.in-Behind.is some.1) some.2

pub feed-requires-in-InModel-clause-few : goal.feed-requires-in-InModel-clause-few
feed-requires-in-InModel-clause-few c =
    let some = c.requires.room in (some.0, (subst (HasTaken some.0) c.in-InModel.is some.1).0, some.2)
