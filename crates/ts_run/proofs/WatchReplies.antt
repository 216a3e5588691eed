-- What `watch` replies to an input whose model was read.
use Rattle.std.proofs.Common.{◌≡◌, ℕ, cond, Option, Some, None, Ok, List, length, refl, sym, ◌∙◌, ap, subst}
use Rattle.std.specs.Prelude.{◌↔◌, IsSome, Result}
use Rattle.ts_checker.specs.Verified.{model_part, rest_part}
use Rattle.ts_model.specs.declared.error.ModelKind.{ModelKind}
use Rattle.ts_model.specs.declared.model.Need.TheVariants.{Values}
use Rattle.ts_model.specs.ModelParts.{ModelParts}
use Rattle.ts_model.specs.ModelReading.{model_reading}
use Rattle.ts_run.specs.Headline.{SaysValues, SaysWatched}
use Rattle.ts_run.specs.Refusals.{refused_window}
use Rattle.ts_run.specs.Reply.{Reply}
use Rattle.ts_run.specs.Watch.{last_line, readings_of, readings_reply, reply_on, values_reply, watch_reply}
use Rattle.ts_run.specs.declared.status.Status.TheVariants.{Done, Refused}

done_is : (bad : Option ℕ) (count : ℕ) → ((last_line bad count).status ≡ Done) ↔ (bad ≡ None)
done_is None count = (λ e. refl, λ e. refl)
done_is (Some number) count = (λ e. cc, λ e. cc)

refused_is : (bad : Option ℕ) (count : ℕ) → ((last_line bad count).status ≡ Refused) ↔ IsSome bad
refused_is None count = (λ e. cc, λ e. cc)
refused_is (Some number) count = (λ e. refl, λ e. refl)

says_on : (m : ModelParts) (text : List ℕ) → SaysValues m text (values_reply m (readings_of text))
says_on m text =
    let r = readings_of text in
    record { lines = refl; done = done_is r.bad (length r.values); refused = refused_is r.bad (length r.values) }

pub says_watched : (bytes : List ℕ) (m : ModelParts) (answer : Reply) → model_reading Values (model_part bytes) ≡ Ok m → answer ≡ watch_reply bytes →
    SaysWatched m (rest_part bytes) answer
says_watched bytes m answer read is =
    let reply = is ∙ ap (λ (x : Result ModelParts (ℕ × ModelKind)). reply_on x (rest_part bytes)) read in
    record {
      window = λ windowed. reply ∙ ap (λ b. cond b refused_window (readings_reply m (rest_part bytes))) windowed;
      values = λ windowless.
          subst (SaysValues m (rest_part bytes)) (sym (reply ∙ ap (λ b. cond b refused_window (readings_reply m (rest_part bytes))) windowless))
          (says_on m (rest_part bytes));
    }
