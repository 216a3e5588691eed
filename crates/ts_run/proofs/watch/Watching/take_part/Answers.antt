use Rattle.std.proofs.Common.{◌++◌, refl, subst}
use Rattle.std.proofs.lemmas.Result.{IfOk-weaker, on_ok_weaker}
use Rattle.ts_run.specs.Watching.{HasCome}
use Rattle.ts_run.proofs.ReadingSteps.{on_ok_of}
use Rattle.ts_run.proofs.WatchSteps.{at_mark, behind_adds, behind_ends, behind_on, mark_adds, rest_few, still_adds, still_in, still_open}
use Rattle.ts_run.proofs.watch.Watching.take_part.Goals as goal

-- after the model: what holds of the rest holds of all bytes

pub take-requires-clause-some : goal.take-requires-clause-some
take-requires-clause-some c =
    let some = c.requires.some in
    let b = subst (HasCome some.0) c.in-InReadings.is some.1 in
    (b.model, b.rest, b.readings, rest_few some.0 c.args.part.now c.in-InReadings.readings b some.2)

pub returns-in-InReadings-clause-put : goal.returns-in-InReadings-clause-put
returns-in-InReadings-clause-put c =
    on_ok_weaker c.take.result
    (λ adds bytes h.
    let b = subst (HasCome bytes) c.in-InReadings.is h in
    behind_adds bytes c.in-InReadings.readings b c.args.part.now c.args.text.now.items c.take.new.text.items (adds b.model b.rest b.readings))
    c.take.ensures.put

pub returns-in-InReadings-clause-ended : goal.returns-in-InReadings-clause-ended
returns-in-InReadings-clause-ended c =
    IfOk-weaker c.take.result _ _
    (λ ended ends bytes h.
    let b = subst (HasCome bytes) c.in-InReadings.is h in
    behind_ends bytes c.in-InReadings.readings b c.args.part.now ended (ends b.model b.rest b.readings))
    c.take.ensures.ended

pub returns-in-InReadings-clause-goes_on : goal.returns-in-InReadings-clause-goes_on
returns-in-InReadings-clause-goes_on c =
    IfOk-weaker c.take.result _ _
    (λ ended goes none bytes h.
    let b = subst (HasCome bytes) c.in-InReadings.is h in
    behind_on bytes c.in-InReadings.readings b c.args.part.now c.take.new.self (goes none b.model b.rest b.readings))
    c.take.ensures.goes_on

-- in the model, which goes on or ends with the part

pub feed-requires-clause-few : goal.feed-requires-clause-few
feed-requires-clause-few c =
    let some = c.requires.some in
    let h = subst (HasCome some.0) c.in-InModel.is some.1 in
    (some.0, h.0, some.2)

pub end_model-requires : goal.end_model-requires
end_model-requires c =
    let some = c.requires.some in record {
      some = (
        some.0 ++ c.args.part.now,
        at_mark some.0 c.args.part.now c.args.self.now.stage c.in-InModel.model c.feed.new.self c.in_ok-ended-in-InModel.ended c.in-InModel.is
            c.in_ok-ended-in-InModel.ensures.taken c.feed.ensures.need some.1 c.if-ended.true,
      );
    }

pub returns-then-ended-clause-put : goal.returns-then-ended-clause-put
returns-then-ended-clause-put c =
    on_ok_of c.end_model.result _ _
    (λ told owed bytes h.
    let at = at_mark bytes c.args.part.now c.args.self.now.stage c.in-InModel.model c.feed.new.self c.in_ok-ended-in-InModel.ended c.in-InModel.is
    c.in_ok-ended-in-InModel.ensures.taken c.feed.ensures.need h c.if-ended.true in
    mark_adds bytes c.args.part.now c.args.self.now.stage c.in-InModel.model c.feed.new.self c.in_ok-ended-in-InModel.ended c.in-InModel.is
    c.in_ok-ended-in-InModel.ensures.taken c.feed.ensures.need h c.args.text.now.items c.end_model.new.text.items told (owed (bytes ++ c.args.part.now) at))
    c.end_model.ensures.put

pub returns-then-ended-clause-ended : goal.returns-then-ended-clause-ended
returns-then-ended-clause-ended c =
    IfOk-weaker c.end_model.result _ _
    (λ told owed bytes h.
    let at = at_mark bytes c.args.part.now c.args.self.now.stage c.in-InModel.model c.feed.new.self c.in_ok-ended-in-InModel.ended c.in-InModel.is
    c.in_ok-ended-in-InModel.ensures.taken c.feed.ensures.need h c.if-ended.true in
    (owed (bytes ++ c.args.part.now) at).1)
    c.end_model.ensures.put

pub returns-then-ended-clause-goes_on : goal.returns-then-ended-clause-goes_on
returns-then-ended-clause-goes_on c =
    IfOk-weaker c.end_model.result _ _
    (λ told goes none bytes h.
    goes none (bytes ++ c.args.part.now)
    (at_mark bytes c.args.part.now c.args.self.now.stage c.in-InModel.model c.feed.new.self c.in_ok-ended-in-InModel.ended c.in-InModel.is
    c.in_ok-ended-in-InModel.ensures.taken c.feed.ensures.need h c.if-ended.true))
    c.end_model.ensures.goes_on

pub returns-else-ended-clause-put : goal.returns-else-ended-clause-put
returns-else-ended-clause-put c = λ bytes h.
    still_adds bytes c.args.part.now c.args.self.now.stage c.in-InModel.model c.feed.new.self c.in_ok-ended-in-InModel.ended c.in-InModel.is
    c.in_ok-ended-in-InModel.ensures.taken c.feed.ensures.need h c.if-ended.false c.args.text.now.items c.args.text.now.items refl

pub returns-else-ended-clause-ended : goal.returns-else-ended-clause-ended
returns-else-ended-clause-ended c = λ bytes h.
    still_open bytes c.args.part.now c.args.self.now.stage c.in-InModel.model c.feed.new.self c.in_ok-ended-in-InModel.ended c.in-InModel.is
    c.in_ok-ended-in-InModel.ensures.taken c.feed.ensures.need h c.if-ended.false

pub returns-else-ended-clause-goes_on : goal.returns-else-ended-clause-goes_on
returns-else-ended-clause-goes_on c = λ none bytes h.
    still_in bytes c.args.part.now c.args.self.now.stage c.in-InModel.model c.feed.new.self c.in_ok-ended-in-InModel.ended c.in-InModel.is
    c.in_ok-ended-in-InModel.ensures.taken c.feed.ensures.need h c.if-ended.false
