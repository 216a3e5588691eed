-- The steps of `mark`: the refusal of the pattern, that of its plan, that of the series, or the occurrences.
use Rattle.std.proofs.Common.{◌≡◌, ℕ, inl, inr, Ok, Err, List, Vec, Global, length, sym, ◌∙◌, ap, subst}
use Rattle.std.specs.Prelude.{Result, ℤ}
use Rattle.std.specs.Result.{IsErrAnd}
use Rattle.ts_base.specs.declared.letter.Letter.{Letter}
use Rattle.ts_base.specs.declared.range.Range.{Range}
use Rattle.ts_base.specs.Signature.{signature_of}
use Rattle.ts_token.specs.Text.{cut_of}
use Rattle.ts_regex.specs.Shape.{Shape, shape_of}
use Rattle.ts_pattern.specs.declared.pattern.Pattern.{Pattern}
use Rattle.ts_pattern.specs.AllOccurrences.{occurrence_ranges}
use Rattle.ts_pattern.specs.Closed.{IsClosed, PlainConfiguration, Subject}
use Rattle.ts_validate.specs.declared.stop.ValidateStop.{ValidateStop}
use Rattle.ts_validate.specs.declared.stop.ValidateStop.TheVariants.{Refused as NotClosed}
use Rattle.ts_validate.specs.Refusals.{IsRefusal, IsStop as EndsValidation}
use Rattle.ts_model.specs.declared.error.SeriesStop.{SeriesStop}
use Rattle.ts_model.specs.Series.{any_series_reading}
use Rattle.ts_user.specs.declared.build_stop.BuildStop.{BuildStop}
use Rattle.ts_user.specs.declared.build_stop.BuildStop.TheVariants.{Refused as FailsAt, TooMany, Memory as NoRoom}
use Rattle.ts_user.specs.declared.user_stop.UserKind.{UserKind}
use Rattle.ts_user.specs.declared.user_pattern.UserPattern.{UserPattern}
use Rattle.ts_user.specs.BuildAnswers.{IsListing, IsStop}
use Rattle.ts_user.specs.Stated.{Described}
use Rattle.ts_user.specs.PatternReading.{pattern_reading}
use Rattle.ts_user.specs.Views.{described_of}
use Rattle.ts_mark.specs.MarkText.{marks_text}
use Rattle.ts_checker.specs.Verified.{model_part, rest_part}
use Rattle.ts_run.specs.MarkReply.{IsPlanRefusal, IsPlanned, MarkReply, OnPattern, PlannedReply, marks_reply, unplanned_in}
use Rattle.ts_run.specs.Refusals.{OnSeries}
use Rattle.ts_run.specs.Replies.{Gives, IsPatternOf, NoMore, StopsWith, TellsStop}
use Rattle.ts_run.specs.Reply.{Reply, reply_of}
use Rattle.ts_run.specs.declared.reply.Reply.{Reply as GivenReply}
use Rattle.ts_run.specs.declared.reply.Stop.{Stop}
use Rattle.ts_run.specs.declared.status.Status.TheVariants.{Done}
use Rattle.ts_run.proofs.SeriesSteps.{series_refusal}
use Rattle.ts_run.proofs.Steps.{step_fails, stops_on}

-- the pattern

pattern_refusal : (reading : Result Described (ℕ × UserKind)) (next : Described → Reply → Type 0) (r : Reply) → OnPattern reading NoMore r →
    OnPattern reading next r
pattern_refusal (Ok d) next r h = absurd h
pattern_refusal (Err bad) next r h = h

-- the pattern is refused
pub pattern_fails : (bytes text : List ℕ) (stop : Stop) (given : Result GivenReply Stop) → text ≡ model_part bytes →
    StopsWith (OnPattern (pattern_reading text) NoMore) stop → IsErrAnd given (λ e. e ≡ stop) → Gives (MarkReply bytes) given
pattern_fails bytes text stop given same h e =
    step_fails (OnPattern (pattern_reading text) NoMore) (MarkReply bytes)
    (λ r k. pattern_refusal (pattern_reading (model_part bytes)) (PlannedReply (rest_part bytes)) r
    (subst (λ (t : List ℕ). OnPattern (pattern_reading t) NoMore r) same k)) stop given h e

pattern_next : (bytes : List ℕ) (d : Described) (r : Reply) → pattern_reading (model_part bytes) ≡ Ok d → PlannedReply (rest_part bytes) d r → MarkReply bytes r
pattern_next bytes d r read h =
    subst (λ (x : Result Described (ℕ × UserKind)). OnPattern x (PlannedReply (rest_part bytes)) r) (sym read) h

gives_next : (Is Js : Reply → Type 0) → ((r : Reply) → Is r → Js r) → (given : Result GivenReply Stop) → Gives Is given → Gives Js given
gives_next Is Js f (Ok r) h = (f (reply_of r) h.0, h.1)
gives_next Is Js f (Err stop) h = stops_on Is Js f stop h

-- the pattern was read, and this is a reply to it
pub pattern_replies : (bytes text rest : List ℕ) (d : Described) (given : Result GivenReply Stop) → text ≡ model_part bytes → rest ≡ rest_part bytes →
    pattern_reading text ≡ Ok d → Gives (PlannedReply rest d) given → Gives (MarkReply bytes) given
pattern_replies bytes text rest d given same behind read h =
    gives_next (PlannedReply rest d) (MarkReply bytes)
    (λ r k. pattern_next bytes d r (subst (λ (t : List ℕ). pattern_reading t ≡ Ok d) same read)
    (subst (λ (t : List ℕ). PlannedReply t d r) behind k)) given h

-- the plan

pub plan_refused : (d : Described) (stop : BuildStop) (r : Reply) → IsStop (unplanned_in d) stop → TellsStop stop r → IsPlanRefusal d r
plan_refused d (FailsAt signature) r is tells = inl (signature.items, is, tells)
plan_refused d TooMany r is tells = inr (is, tells)
plan_refused d NoRoom r is tells = absurd tells

-- a plan that was built is closed, so `validate` doesn't refuse it
pub never_refused : (s : Subject Shape) (stop : ValidateStop) (configuration : ℕ) (letter : Letter) (signature : Vec Letter Global) → IsClosed s →
    EndsValidation s stop → stop ≡ NotClosed configuration letter signature → ⊥
never_refused s stop configuration letter signature closed is e =
    let refusal : IsRefusal s configuration letter signature.items = subst (λ (x : ValidateStop). EndsValidation s x) e is in refusal.refutes closed

-- the plan that was built lists the configurations, and the pattern that was validated is the one that was read
pub validated_as : (u : UserPattern) (p : Pattern) (xs : List (PlainConfiguration Shape)) → IsListing (unplanned_in (described_of u)) xs →
    (shape_of p.regex ≡ shape_of u.pattern.regex) × (p.b ≡ u.pattern.b) × (p.a ≡ u.pattern.a) →
    IsPlanned (described_of u) × IsPatternOf (described_of u) p
validated_as u p xs listing same = ((xs, listing), record { expression = same.0; before = same.1; after = same.2 })

pub plan_fails : (text : List ℕ) (d : Described) (stop : Stop) (given : Result GivenReply Stop) → StopsWith (IsPlanRefusal d) stop →
    IsErrAnd given (λ e. e ≡ stop) → Gives (PlannedReply text d) given
plan_fails text d stop given h e = step_fails (IsPlanRefusal d) (PlannedReply text d) (λ r k. inl k) stop given h e

-- the series

pub series_fails : (text : List ℕ) (d : Described) (stop : Stop) (given : Result GivenReply Stop) → IsPlanned d →
    StopsWith (OnSeries (any_series_reading (cut_of text)) NoMore) stop → IsErrAnd given (λ e. e ≡ stop) → Gives (PlannedReply text d) given
series_fails text d stop given planned h e =
    step_fails (OnSeries (any_series_reading (cut_of text)) NoMore) (PlannedReply text d)
    (λ r k. inr (planned, series_refusal (any_series_reading (cut_of text)) (λ ys s. s ≡ marks_reply d ys) r k)) stop given h e

-- a reply that is done with this text
abbrev done_with : List ℕ → Reply
done_with text = record { text = text; status = Done }

-- the series was read, and its occurrences are reported
pub marked : (text : List ℕ) (d : Described) (p : Pattern) (a cells : ℕ) (xs : List ℤ) (ranges : List Range) (told : List ℕ) → IsPlanned d → IsPatternOf d p →
    a ≡ p.a → cells ≡ length xs → any_series_reading (cut_of text) ≡ Ok xs → ranges ≡ occurrence_ranges (shape_of p.regex) p.b a (signature_of xs) →
    told ≡ marks_text cells ranges → PlannedReply text d (record { text = told; status = Done })
marked text d p a cells xs ranges told planned of trim count read ranges_are told_is =
    let after : a ≡ d.a = trim ∙ of.after in
    let all : occurrence_ranges (shape_of p.regex) p.b a (signature_of xs) ≡ occurrence_ranges d.expression d.b d.a (signature_of xs) =
    (λ i. occurrence_ranges (of.expression i) (of.before i) (after i) (signature_of xs)) in
    let whole = ranges_are ∙ all in
    let same : told ≡ marks_text (length xs) (occurrence_ranges d.expression d.b d.a (signature_of xs)) = told_is ∙ (λ i. marks_text (count i) (whole i)) in
    inr (
      planned,
      subst (λ (x : Result (List ℤ) SeriesStop). OnSeries x (λ ys s. s ≡ marks_reply d ys) (record { text = told; status = Done })) (sym read)
          (ap done_with same),
    )
