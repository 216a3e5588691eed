-- The steps of a command: one that stops it, whose refusal is one of its replies; and the refusal of a model, or a reply to it.
use Rattle.std.proofs.Common.{◌≡◌, ℕ, Ok, Err, List, sym, subst}
use Rattle.std.specs.Prelude.{Result}
use Rattle.std.specs.Result.{IsErrAnd}
use Rattle.ts_model.specs.declared.error.ModelKind.{ModelKind}
use Rattle.ts_model.specs.declared.model.Need.{Need}
use Rattle.ts_model.specs.ModelReading.{model_reading}
use Rattle.ts_model.specs.ModelParts.{ModelParts}
use Rattle.ts_run.specs.Refusals.{OnModel, OnReading}
use Rattle.ts_run.specs.Replies.{Gives, NoMore, StopsWith}
use Rattle.ts_run.specs.Reply.{Reply, reply_of}
use Rattle.ts_run.specs.declared.reply.Reply.{Reply as GivenReply}
use Rattle.ts_run.specs.declared.reply.Stop.{Stop}
use Rattle.ts_run.specs.declared.reply.Stop.TheVariants.{Refused, Memory}

-- what holds of the refusal of a step
pub stops_on : (Is Js : Reply → Type 0) → ((r : Reply) → Is r → Js r) → (stop : Stop) → StopsWith Is stop → StopsWith Js stop
stops_on Is Js f (Refused r) h = (f (reply_of r) h.0, h.1)
stops_on Is Js f Memory h = tt

-- a step stops the command, and its refusal is one of the command's replies
pub step_fails : (Is Js : Reply → Type 0) → ((r : Reply) → Is r → Js r) → (stop : Stop) (given : Result GivenReply Stop) → StopsWith Is stop →
    IsErrAnd given (λ e. e ≡ stop) → Gives Js given
step_fails Is Js f stop (Ok r) h e = absurd e
step_fails Is Js f stop (Err g) h e = subst (StopsWith Js) (sym e) (stops_on Is Js f stop h)

-- a refusal is a reply, whatever would have come next
model_refusal : (reading : Result ModelParts (ℕ × ModelKind)) (next : ModelParts → Reply → Type 0) (r : Reply) → OnReading reading NoMore r →
    OnReading reading next r
model_refusal (Ok m) next r h = absurd h
model_refusal (Err bad) next r h = h

-- the model is refused
pub model_fails : (need : Need) (text : List ℕ) (next : ModelParts → Reply → Type 0) (stop : Stop) (given : Result GivenReply Stop) →
    StopsWith (OnReading (model_reading need text) NoMore) stop → IsErrAnd given (λ e. e ≡ stop) → Gives (OnModel need text next) given
model_fails need text next stop given h e =
    step_fails (OnReading (model_reading need text) NoMore) (OnModel need text next) (λ r k. model_refusal (model_reading need text) next r k) stop given h e

-- the model was read, and this is a reply to it
pub model_replies : (need : Need) (text : List ℕ) (next : ModelParts → Reply → Type 0) (m : ModelParts) (r : Reply) →
    model_reading need text ≡ Ok m → next m r → OnModel need text next r
model_replies need text next m r read h = subst (λ (x : Result ModelParts (ℕ × ModelKind)). OnReading x next r) (sym read) h
