use Rattle.std.proofs.Common.{subst}
use Rattle.std.proofs.lemmas.Result.{IfOk-weaker}
use Rattle.ts_run.specs.Watching.{HasCome}
use Rattle.ts_run.proofs.WatchSteps.{behind_replies, none_replied, rest_short, stop_replied}
use Rattle.ts_run.proofs.watch.WatchingLive.finish.Goals as goal

pub end-requires : goal.end-requires
end-requires c =
    let some = c.requires.some in
    let b = subst (HasCome some.0) c.in-InReadings.is some.1 in
    record { some = (b.model, b.rest, b.readings, rest_short some.0 c.in-InReadings.readings b some.2) }

pub returns-in-InReadings : goal.returns-in-InReadings
returns-in-InReadings c = record {
  put = IfOk-weaker c.end.result _ _
      (λ status adds bytes h.
      let b = subst (HasCome bytes) c.in-InReadings.is h in
      behind_replies bytes c.in-InReadings.readings b c.args.text.now.items c.end.new.text.items status (adds b.model b.rest b.readings))
      c.end.ensures.put;
}

pub finish-read-requires : goal.finish-read-requires
finish-read-requires c =
    let some = c.requires.some in
    let h = subst (HasCome some.0) c.in-InModel.is some.1 in
    (some.0, h.0, some.2)

-- the input ended in the model, which is read

pub returns-in-Ok : goal.returns-in-Ok
returns-in-Ok c = record {
  put = IfOk-weaker c.push_none.result _ _
      (λ status put bytes h.
      let at = subst (HasCome bytes) c.in-InModel.is h in
      none_replied bytes c.in-InModel.model at.0 at.1 _ c.args.text.now.items c.push_none.new.text.items status (c.in-Ok.ensures bytes at.0) put)
      c.push_none.ensures;
}

-- the input ended in the model, which is refused

pub returns-in-Err : goal.returns-in-Err
returns-in-Err c = record {
  put = IfOk-weaker c.push_stop.result _ _
      (λ status put bytes h.
      let at = subst (HasCome bytes) c.in-InModel.is h in
      stop_replied bytes c.in-InModel.model at.0 at.1 c.in-Err.stop c.args.text.now.items c.push_stop.new.text.items status (c.in-Err.ensures bytes at.0) put)
      c.push_stop.ensures.put;
}
