use Rattle.std.proofs.Common.{refl, subst, sym, ◌∙◌}
use Rattle.ts_run.specs.Watching.{EndsIn}
use Rattle.ts_run.proofs.WatchSteps.{few_terms, model_opens, opens_owed, stop_owed, whole_model, window_owed}
use Rattle.ts_run.proofs.watch.Watching.end_model.Goals as goal

pub model-read-requires : goal.model-read-requires
model-read-requires c =
    let some = c.requires.some in
    let h = subst (EndsIn some.0) c.in-InModel.is some.1 in
    (some.0, h.0)

pub unreachable-requires : goal.unreachable-requires
unreachable-requires c = let some = c.requires.some in subst (EndsIn some.0) c.in-InReadings.is some.1

-- the model is read

pub new-requires : goal.new-requires
new-requires c =
    let some = c.requires.some in
    let h = subst (EndsIn some.0) c.in-InModel.is some.1 in
    let ends = c.in-Ok.ensures some.0 h.0 in
    record {
      few = few_terms some.0 c.in-InModel.model.need c.in-Ok.model ends;
      whole = whole_model some.0 c.in-InModel.model.need c.in-Ok.model ends;
      windowless = sym c.has_window.ensures ∙ c.if-has_window.false;
    }

pub returns-in_ok-new-in-Ok-clause-put : goal.returns-in_ok-new-in-Ok-clause-put
returns-in_ok-new-in-Ok-clause-put c = λ bytes ends.
    let h = subst (EndsIn bytes) c.in-InModel.is ends in
    opens_owed bytes c.in-InModel.model.need h.1 c.in-Ok.model c.args.text.now.items c.args.text.now.items (c.in-Ok.ensures bytes h.0)
    (sym c.has_window.ensures ∙ c.if-has_window.false) refl

pub returns-in_ok-new-in-Ok-clause-goes_on : goal.returns-in_ok-new-in-Ok-clause-goes_on
returns-in_ok-new-in-Ok-clause-goes_on c = λ none bytes ends.
    let h = subst (EndsIn bytes) c.in-InModel.is ends in
    model_opens bytes c.in-InModel.model.need h.1 c.in-Ok.model _ (c.in-Ok.ensures bytes h.0)
    (sym c.has_window.ensures ∙ c.if-has_window.false) c.in_ok-new-in-Ok.ensures.stand

-- the model is read, but has a window

pub returns-then-has_window-clause-put : goal.returns-then-has_window-clause-put
returns-then-has_window-clause-put c = λ bytes ends.
    let h = subst (EndsIn bytes) c.in-InModel.is ends in
    window_owed bytes c.in-InModel.model.need h.1 c.in-Ok.model c.args.text.now.items c.push_window.new.text.items
    c.in_ok-status-in-Ok.status (c.in-Ok.ensures bytes h.0) (sym c.has_window.ensures ∙ c.if-has_window.true)
    c.in_ok-status-in-Ok.ensures.put

-- the model is refused

pub returns-in_ok-status-in-Err-clause-put : goal.returns-in_ok-status-in-Err-clause-put
returns-in_ok-status-in-Err-clause-put c = λ bytes ends.
    let h = subst (EndsIn bytes) c.in-InModel.is ends in
    stop_owed bytes c.in-InModel.model.need h.1 c.in-Err.stop c.args.text.now.items c.push_stop.new.text.items c.in_ok-status-in-Err.status
    (c.in-Err.ensures bytes h.0) c.in_ok-status-in-Err.ensures.put
