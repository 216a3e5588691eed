-- What the steps of a command give: a part of the input that was read, a reply, or why there is none.
use Rattle.std.specs.Prelude.{ℕ, ◌≡◌, ℤ, List, Result, Ok, Err}
use Rattle.ts_model.specs.declared.error.ModelKind.{ModelKind}
use Rattle.ts_model.specs.declared.error.SeriesStop.{SeriesStop}
use Rattle.ts_model.specs.declared.model.Model.{Model}
use Rattle.ts_model.specs.ModelParts.{ModelParts}
use Rattle.ts_model.specs.Views.{model_parts}
use Rattle.ts_regex.specs.Shape.{shape_of}
use Rattle.ts_pattern.specs.declared.pattern.Pattern.{Pattern}
use Rattle.ts_validate.specs.declared.validated.Validated.{Validated}
use Rattle.ts_validate.specs.Validations.{pattern_of}
use Rattle.ts_user.specs.declared.build_stop.BuildStop.{BuildStop}
use Rattle.ts_user.specs.declared.build_stop.BuildStop.TheVariants.{Refused as FailsAt, TooMany, Memory as NoRoom}
use Rattle.ts_user.specs.declared.user_pattern.UserPattern.{UserPattern}
use Rattle.ts_user.specs.declared.user_stop.UserKind.{UserKind}
use Rattle.ts_user.specs.Stated.{Described}
use Rattle.ts_user.specs.Views.{described_of}
use Rattle.ts_run.specs.MarkReply.{IsPlanRefusal, IsPlanned, OnPattern}
use Rattle.ts_run.specs.Refusals.{OnReading, OnSeries, refused_closure, refused_toomany}
use Rattle.ts_run.specs.Reply.{ComesOfInput, Reply, reply_of}
use Rattle.ts_run.specs.declared.reply.Reply.{Reply as GivenReply}
use Rattle.ts_run.specs.declared.reply.Stop.{Stop}
use Rattle.ts_run.specs.declared.reply.Stop.TheVariants.{Refused, Memory}

-- a refusal of this kind, unless there was no memory
abbrev pub StopsWith : (Reply → Type 0) → Stop → Type 0
StopsWith Is (Refused r) = Is (reply_of r) × ComesOfInput r.status
StopsWith Is Memory = Unit {0}

-- a reply of this kind, unless there was no memory
abbrev pub Gives : (Reply → Type 0) → Result GivenReply Stop → Type 0
Gives Is (Ok r) = Is (reply_of r) × ComesOfInput r.status
Gives Is (Err stop) = StopsWith Is stop

-- no reply to what was read
abbrev pub NoMore : {A : Type 0} → A → Reply → Type 0
NoMore x r = ⊥

-- the model of a text by how it was read, or its refusal
abbrev pub GivesModel : Result ModelParts (ℕ × ModelKind) → Result Model Stop → Type 0
GivesModel reading (Ok m) = reading ≡ Ok (model_parts m)
GivesModel reading (Err stop) = StopsWith (OnReading reading NoMore) stop

-- the series of a text by how it was read, or its refusal
abbrev pub GivesSeries : {X : Type 0} → (X → List ℤ) → Result (List ℤ) SeriesStop → Result X Stop → Type 0
GivesSeries view reading (Ok xs) = reading ≡ Ok (view xs)
GivesSeries view reading (Err stop) = StopsWith (OnSeries reading NoMore) stop

-- the pattern of a text by how it was read, or its refusal
abbrev pub GivesPattern : Result Described (ℕ × UserKind) → Result UserPattern Stop → Type 0
GivesPattern reading (Ok u) = reading ≡ Ok (described_of u)
GivesPattern reading (Err stop) = StopsWith (OnPattern reading NoMore) stop

-- why no plan was built, in words
abbrev pub TellsStop : BuildStop → Reply → Type 0
TellsStop (FailsAt signature) r = r ≡ refused_closure signature.items
TellsStop TooMany r = r ≡ refused_toomany
TellsStop NoRoom r = ⊥

-- the pattern is the one that is described
pub record IsPatternOf (d : Described) (p : Pattern) : Type 0 where
  pub expression : shape_of p.regex ≡ d.expression
  pub before : p.b ≡ d.b
  pub after : p.a ≡ d.a

-- what is described has a plan and was validated, or the refusal of its plan
abbrev pub GivesValidated : Described → Result Validated Stop → Type 0
GivesValidated d (Ok v) = IsPlanned d × IsPatternOf d (pattern_of v)
GivesValidated d (Err stop) = StopsWith (IsPlanRefusal d) stop
