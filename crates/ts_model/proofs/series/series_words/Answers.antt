use Rattle.std.proofs.Common.{◌∙◌, sym, ap, arith}
use Rattle.ts_token.specs.Views.{rows, cut_view}
use Rattle.ts_model.proofs.ValueLaws.{one_row}
use Rattle.ts_model.proofs.series.series_words.Goals as goal

pub returns-in-len1 : goal.returns-in-len1
returns-in-len1 c =
    c.after_series.ensures ∙ one_row c.args.tokens.now.not_text c.as_slice.result.now c.line-item.result c.deref.result.now (cut_view c.args.tokens.now)
    (sym c.is_some.ensures ∙ c.if-is_some.false) (omega (arith, c.in-len1.len_at_least))
    (omega (arith, c.in-len1.len_below)) c.line-item.is c.deref.ensures.value (ap rows (sym c.as_slice.ensures.value))
