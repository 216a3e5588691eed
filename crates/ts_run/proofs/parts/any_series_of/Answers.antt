use Rattle.std.proofs.Common.{subst}
use Rattle.ts_token.specs.Text.{Cut}
use Rattle.ts_token.specs.Views.{cut_view}
use Rattle.ts_model.specs.Series.{any_series_reading}
use Rattle.ts_run.specs.Refusals.{OnSeries}
use Rattle.ts_run.specs.Replies.{NoMore}
use Rattle.ts_run.specs.Reply.{reply_of}
use Rattle.ts_run.proofs.Inputs.{any_series_fits}
use Rattle.ts_run.proofs.SeriesSteps.{series_refused}
use Rattle.ts_run.proofs.parts.any_series_of.Goals as goal

pub returns-in-Ok-clause-count : goal.returns-in-Ok-clause-count
returns-in-Ok-clause-count c = any_series_fits (cut_view c.in_ok-tokens.tokens) c.in-Ok.series.items c.in-Ok.ensures

pub returns-clause-gives : goal.returns-clause-gives
returns-clause-gives c = (
  subst (λ (z : Cut). OnSeries (any_series_reading z) NoMore (reply_of c.in_ok-reply-in-Err.reply)) c.in_ok-tokens.ensures.tokens
      (series_refused (any_series_reading (cut_view c.in_ok-tokens.tokens)) c.in-Err.stop (reply_of c.in_ok-reply-in-Err.reply) c.in-Err.ensures
      c.in_ok-reply-in-Err.ensures.reply),
  c.in_ok-reply-in-Err.ensures.status,
)
