-- What `mark` replies: the refusal of the pattern, that of its plan, that of the series, or the occurrences in words.
use Rattle.std.specs.Prelude.{ℕ, ◌≡◌, ◌⊎◌, ℤ, List, length, Result, Ok, Err}
use Rattle.ts_base.specs.declared.letter.Letter.{Letter}
use Rattle.ts_base.specs.Signature.{signature_of}
use Rattle.ts_token.specs.Text.{cut_of}
use Rattle.ts_regex.specs.Shape.{Shape}
use Rattle.ts_pattern.specs.AllOccurrences.{occurrence_ranges}
use Rattle.ts_pattern.specs.Closed.{PlainConfiguration, Subject}
use Rattle.ts_model.specs.Series.{any_series_reading}
use Rattle.ts_user.specs.declared.user_stop.UserKind.{UserKind}
use Rattle.ts_user.specs.FirstReached.{unplanned}
use Rattle.ts_user.specs.BuildAnswers.{IsListing, IsRefused, IsTooMany}
use Rattle.ts_user.specs.Stated.{Described}
use Rattle.ts_user.specs.PatternReading.{pattern_reading}
use Rattle.ts_mark.specs.MarkText.{marks_text}
use Rattle.ts_checker.specs.Verified.{model_part, rest_part}
use Rattle.ts_run.specs.Refusals.{OnSeries, refused_closure, refused_pattern, refused_toomany}
use Rattle.ts_run.specs.Reply.{Reply}
use Rattle.ts_run.specs.declared.status.Status.TheVariants.{Done}

-- the rows of what is described against its pattern, with no plan yet
abbrev pub unplanned_in : Described → Subject Shape
unplanned_in d = unplanned d.rows d.expression d.b

-- at most 512 configurations are reached, and all checks hold
abbrev pub IsPlanned : Described → Type 0
IsPlanned d = (xs : List (PlainConfiguration Shape)) × IsListing (unplanned_in d) xs

-- the occurrences of the pattern in the series, in words
abbrev pub marks_reply : Described → List ℤ → Reply
marks_reply d xs = record {
  text = marks_text (length xs) (occurrence_ranges d.expression d.b d.a (signature_of xs));
  status = Done;
}

-- the refusal of a pattern by how it was read, or a reply to the pattern
abbrev pub OnPattern : Result Described (ℕ × UserKind) → (Described → Reply → Type 0) → Reply → Type 0
OnPattern (Err bad) next r = r ≡ refused_pattern bad.0 bad.1
OnPattern (Ok d) next r = next d r

-- a check of the plan fails, or there are too many configurations
abbrev pub IsPlanRefusal : Described → Reply → Type 0
IsPlanRefusal d r =
    ((w : List Letter) × IsRefused (unplanned_in d) w × (r ≡ refused_closure w))
    ⊎ (IsTooMany (unplanned_in d) × (r ≡ refused_toomany))

-- the refusal of the plan, or another reply where there is a plan
abbrev pub OnPlan : Described → (Reply → Type 0) → Reply → Type 0
OnPlan d Next r = IsPlanRefusal d r ⊎ (IsPlanned d × Next r)

-- the refusal of the series in the text, or the occurrences in it
abbrev pub MarkedReply : List ℕ → Described → Reply → Type 0
MarkedReply text d r = OnSeries (any_series_reading (cut_of text)) (λ xs s. s ≡ marks_reply d xs) r

-- the refusal of the plan, that of the series, or the occurrences
abbrev pub PlannedReply : List ℕ → Described → Reply → Type 0
PlannedReply text d r = OnPlan d (MarkedReply text d) r

abbrev pub MarkReply : List ℕ → Reply → Type 0
MarkReply bytes r = OnPattern (pattern_reading (model_part bytes)) (PlannedReply (rest_part bytes)) r

-- `mark` has one reply to an input
abbrev pub OneMarkReply : Type 0
OneMarkReply = (bytes : List ℕ) (r s : Reply) → MarkReply bytes r → MarkReply bytes s → r ≡ s
