-- The steps of `verify`: what comes of its input.
use Rattle.std.proofs.Common.{◌≡◌, ℕ, List, sym, subst}
use Rattle.std.specs.Prelude.{Result, Ok, Err, IfOk}
use Rattle.ts_model.specs.declared.error.ModelKind.{ModelKind}
use Rattle.ts_model.specs.declared.model.Need.TheVariants.{List as Listed}
use Rattle.ts_model.specs.ModelParts.{ModelParts}
use Rattle.ts_checker.specs.declared.verify_end.VerifyEnd.{VerifyEnd}
use Rattle.ts_checker.specs.declared.verify_end.VerifyEnd.TheVariants.{Model, Verdict as Judged}
use Rattle.ts_checker.specs.Feeding.{HasFed, Verifying}
use Rattle.ts_checker.specs.Verified.{IsVerifyEnd, certificate_lines, model_part}
use Rattle.ts_run.specs.AnswerTexts.{IsReply, VerifyReply, end_reply}
use Rattle.ts_run.specs.Refusals.{OnReading}
use Rattle.ts_run.specs.Reply.{Reply, reply_of}
use Rattle.ts_run.specs.Verified.{IsVerified}
use Rattle.ts_run.specs.declared.command.Command.{Command}
use Rattle.ts_run.specs.declared.command.Command.TheVariants.{Verify}
use Rattle.ts_run.specs.declared.reply.Reply.{Reply as GivenReply}
use Rattle.ts_run.proofs.Steps.{model_replies}

-- how an input ends, in words
pub end_given : (bytes : List ℕ) (end : VerifyEnd) (r : Reply) → IsVerifyEnd bytes end → r ≡ end_reply end → VerifyReply bytes r
end_given bytes (Model line kind) r h is =
    subst (λ (x : Result ModelParts (ℕ × ModelKind)). OnReading x (IsVerified (certificate_lines bytes)) r) (sym h) is
end_given bytes (Judged v) r h is =
    model_replies Listed (model_part bytes) (IsVerified (certificate_lines bytes)) h.model r h.states (record { verdict = v; shown = h.shown; reply = is })

-- the end of an input is the reply of `verify` to whatever bytes were fed
pub end_told : {E : Type 0} (command : Command) (v : Verifying) (end : VerifyEnd) (given : Result GivenReply E) → command ≡ Verify →
    ((bytes : List ℕ) → HasFed bytes v → IsVerifyEnd bytes end) → IfOk given (λ r. reply_of r ≡ end_reply end) →
    IfOk given (λ r. (bytes : List ℕ) → HasFed bytes v → IsReply command bytes (reply_of r))
end_told command v end (Ok r) is ends reply = λ bytes fed.
    subst (λ (x : Command). IsReply x bytes (reply_of r)) (sym is) (end_given bytes end (reply_of r) (ends bytes fed) reply)
end_told command v end (Err e) is ends reply = tt
