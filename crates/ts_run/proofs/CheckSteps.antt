-- The steps of `check`: a part that was read, or the refusal of a bad one.
use Rattle.std.proofs.Common.{◌≡◌, ℕ, Bool, ℤ, Ok, List, length, sym, ◌∙◌, subst}
use Rattle.std.specs.Prelude.{Result}
use Rattle.std.specs.Result.{IsErrAnd}
use Rattle.std.specs.List.{zip}
use Rattle.ts_token.specs.Text.{cut_of}
use Rattle.ts_model.specs.declared.error.SeriesStop.{SeriesStop}
use Rattle.ts_model.specs.declared.model.Need.TheVariants.{Values}
use Rattle.ts_model.specs.Judgement.{holdings, insides}
use Rattle.ts_model.specs.Meets.{values_on}
use Rattle.ts_model.specs.ModelReading.{model_reading}
use Rattle.ts_model.specs.Series.{series_reading}
use Rattle.ts_model.specs.ModelParts.{ModelParts}
use Rattle.ts_base.specs.declared.ext.Ext.{Ext}
use Rattle.ts_checker.specs.Verified.{model_part, rest_part}
use Rattle.ts_run.specs.AnswerTexts.{CheckReply, SeriesReply}
use Rattle.ts_run.specs.Refusals.{OnReading, OnSeries}
use Rattle.ts_run.specs.Replies.{Gives, NoMore, StopsWith}
use Rattle.ts_run.specs.Reply.{Reply}
use Rattle.ts_run.specs.Verdict.{names_of, verdict, verdict_of}
use Rattle.ts_run.specs.declared.reply.Reply.{Reply as GivenReply}
use Rattle.ts_run.specs.declared.reply.Stop.{Stop}
use Rattle.ts_run.proofs.Steps.{model_fails}

-- the model is refused
pub check_fails : (bytes text : List ℕ) (stop : Stop) (given : Result GivenReply Stop) → text ≡ model_part bytes →
    StopsWith (OnReading (model_reading Values text) NoMore) stop → IsErrAnd given (λ e. e ≡ stop) → Gives (CheckReply bytes) given
check_fails bytes text stop given same h e =
    model_fails Values (model_part bytes) (SeriesReply (rest_part bytes)) stop given
    (subst (λ (t : List ℕ). StopsWith (OnReading (model_reading Values t) NoMore) stop) same h) e

-- the series was read, and the verdict on it given
pub series_replies : (text : List ℕ) (m : ModelParts) (n : ℕ) (xs : List ℤ) (inside holding : List Bool) (values : List Ext) (r : Reply) → n ≡ length m.cells →
    series_reading n (cut_of text) ≡ Ok xs →
    inside ≡ insides m.cells xs → values ≡ values_on m xs → holding ≡ holdings (values_on m xs) m.requirements → r ≡ verdict_of inside holding
    (zip (names_of m) values) → SeriesReply text m r
series_replies text m n xs inside holding values r count read inside_is values_is holding_is text_is =
    subst (λ (l : ℕ). OnSeries (series_reading l (cut_of text)) (λ ys s. s ≡ verdict m ys) r) count
    (subst (λ (x : Result (List ℤ) SeriesStop). OnSeries x (λ ys s. s ≡ verdict m ys) r) (sym read)
    (text_is ∙ (λ i. verdict_of (inside_is i) (holding_is i) (zip (names_of m) (values_is i)))))
