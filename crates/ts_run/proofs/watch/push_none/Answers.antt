use Rattle.std.proofs.Common.{sym, ◌∙◌}
use Rattle.std.proofs.lemmas.Result.{IfOk-weaker}
use Rattle.ts_model.specs.Views.{model_parts}
use Rattle.ts_run.proofs.WatchSteps.{none_open, none_windowed}
use Rattle.ts_run.proofs.watch.push_none.Goals as goal

pub returns-then-has_window : goal.returns-then-has_window
returns-then-has_window c =
    IfOk-weaker c.push_window.result _ _
    (λ status put. none_windowed (model_parts c.args.model.now) c.args.text.now.items c.push_window.new.text.items status
    (sym c.has_window.ensures ∙ c.if-has_window.true) put)
    c.push_window.ensures.put

pub returns-else-has_window : goal.returns-else-has_window
returns-else-has_window c =
    IfOk-weaker c.push_end.result _ _
    (λ status put. none_open (model_parts c.args.model.now) c.args.text.now.items c.push_end.new.text.items status
    (sym c.has_window.ensures ∙ c.if-has_window.false) put)
    c.push_end.ensures
