use Rattle.std.proofs.Common.{subst}
use Rattle.ts_token.specs.Text.{Cut}
use Rattle.ts_token.specs.Views.{cut_view}
use Rattle.ts_model.specs.Series.{series_reading}
use Rattle.ts_run.specs.Refusals.{OnSeries}
use Rattle.ts_run.specs.Replies.{NoMore}
use Rattle.ts_run.specs.Reply.{reply_of}
use Rattle.ts_run.proofs.Inputs.{series_count, series_fits}
use Rattle.ts_run.proofs.SeriesSteps.{series_refused}
use Rattle.ts_run.proofs.parts.series_of.Goals as goal

pub returns-in-Ok-clause-count : goal.returns-in-Ok-clause-count
returns-in-Ok-clause-count c = series_count c.args.n (cut_view c.in_ok-tokens.tokens) c.in-Ok.series.items c.in-Ok.ensures

pub returns-in-Ok-clause-series : goal.returns-in-Ok-clause-series
returns-in-Ok-clause-series c = series_fits c.args.n (cut_view c.in_ok-tokens.tokens) c.in-Ok.series.items c.in-Ok.ensures c.requires.cells.0 c.requires.cells.1

pub returns-clause-gives : goal.returns-clause-gives
returns-clause-gives c = (
  subst (λ (z : Cut). OnSeries (series_reading c.args.n z) NoMore (reply_of c.in_ok-reply-in-Err.reply)) c.in_ok-tokens.ensures.tokens
      (series_refused (series_reading c.args.n (cut_view c.in_ok-tokens.tokens)) c.in-Err.stop (reply_of c.in_ok-reply-in-Err.reply) c.in-Err.ensures
      c.in_ok-reply-in-Err.ensures.reply),
  c.in_ok-reply-in-Err.ensures.status,
)
