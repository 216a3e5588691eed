use Rattle.std.proofs.Common.{rules, ◌≡◌, ◌∙◌, sym, ap, vec_len, length, Ok, List, ℤ}
use Rattle.std.proofs.lemmas.List.{length-map}
use Rattle.ts_base.specs.declared.ext.Ext.{Ext}
use Rattle.ts_model.specs.TermValue.{stated_value}
use Rattle.ts_model.specs.Views.{model_parts}
use Rattle.ts_model.proofs.TermWindows.{terms_count}
use Rattle.ts_run.specs.Reply.{reply_of}
use Rattle.ts_run.proofs.CheckSteps.{series_replies}
use Rattle.ts_run.proofs.check.check_series.Goals as goal

-- a value is judged for each term
pub verdict-requires : goal.verdict-requires
verdict-requires c =
    let m = c.args.model.now in
    ap (λ (vs : List Ext). length vs) c.in_ok-judgement.ensures.values ∙ length-map (model_parts m).terms (λ t. stated_value t.1 c.deref.result.now)
    ∙ terms_count m.terms.entries m.windows.items

pub returns : goal.returns
returns c =
    let count : vec_len c.args.model.now.cells ≡ length c.args.model.now.cells.items = search rules in
    let j = c.in_ok-judgement in (
      series_replies c.args.text.now (model_parts c.args.model.now) c.args.model.now.n c.deref.result.now
          j.judgement.inside.items j.judgement.holding.items j.judgement.values.items (reply_of c.in_ok-verdict.field-0)
          (c.requires.counted ∙ count) (c.in_ok-series.ensures.gives ∙ ap (λ (xs : List ℤ). Ok xs) (sym c.deref.ensures.value))
          j.ensures.inside j.ensures.values j.ensures.holding c.in_ok-verdict.ensures.text,
      c.in_ok-verdict.ensures.status,
    )
