-- The reply of `mark`: there is one, and it reports the occurrences where nothing is refused.
use Rattle.std.proofs.Common.{◌≡◌, ℕ, inl, inr, refl, Ok, Err, List, sym, ◌∙◌, ap, subst}
use Rattle.std.specs.Prelude.{Result, ℤ}
use Rattle.ts_base.specs.declared.letter.Letter.{Letter}
use Rattle.ts_base.specs.Signature.{signature_of}
use Rattle.ts_token.specs.Text.{cut_of}
use Rattle.ts_pattern.specs.AllOccurrences.{occurrence_ranges}
use Rattle.ts_pattern.proofs.CallerLemmas.{are_ranges}
use Rattle.ts_model.specs.Series.{any_series_reading}
use Rattle.ts_user.specs.declared.user_stop.UserKind.{UserKind}
use Rattle.ts_user.specs.BuildAnswers.{IsRefused, IsTooMany}
use Rattle.ts_user.specs.Stated.{Described}
use Rattle.ts_user.specs.PatternReading.{pattern_reading}
use Rattle.ts_user.proofs.OneAnswer.{listed_not_refused, listed_not_too_many, one_refusal, refused_not_too_many}
use Rattle.ts_mark.proofs.Holders.{holders}
use Rattle.ts_checker.specs.Verified.{model_part, rest_part}
use Rattle.ts_run.specs.Headline.{SaysMarks, SaysOccurrences}
use Rattle.ts_run.specs.MarkReply.{IsPlanRefusal, IsPlanned, MarkReply, MarkedReply, OneMarkReply, OnPattern, PlannedReply, marks_reply, unplanned_in}
use Rattle.ts_run.specs.Refusals.{refused_closure, refused_toomany}
use Rattle.ts_run.specs.Reply.{Reply}
use Rattle.ts_run.proofs.CheckLaws.{one_series_reply}
use Rattle.ts_run.proofs.SeriesSteps.{series_as}

-- there is one reply

one_plan_refusal : (d : Described) (r s : Reply) → IsPlanRefusal d r → IsPlanRefusal d s → r ≡ s
one_plan_refusal d r s (inl h) (inl k) = h.2 ∙ ap refused_closure (one_refusal (unplanned_in d) h.0 k.0 h.1 k.1) ∙ sym k.2
one_plan_refusal d r s (inl h) (inr k) = absurd (refused_not_too_many (unplanned_in d) h.0 h.1 k.0)
one_plan_refusal d r s (inr h) (inl k) = absurd (refused_not_too_many (unplanned_in d) k.0 k.1 h.0)
one_plan_refusal d r s (inr h) (inr k) = h.1 ∙ sym k.1

not_planned : (d : Described) (r : Reply) → IsPlanRefusal d r → IsPlanned d → ⊥
not_planned d r (inl h) planned = listed_not_refused (unplanned_in d) planned.0 h.0 planned.1 h.1
not_planned d r (inr h) planned = listed_not_too_many (unplanned_in d) planned.0 planned.1 h.0

one_planned_reply : (text : List ℕ) (d : Described) (r s : Reply) → PlannedReply text d r → PlannedReply text d s → r ≡ s
one_planned_reply text d r s (inl h) (inl k) = one_plan_refusal d r s h k
one_planned_reply text d r s (inl h) (inr k) = absurd (not_planned d r h k.0)
one_planned_reply text d r s (inr h) (inl k) = absurd (not_planned d s k h.0)
one_planned_reply text d r s (inr h) (inr k) = one_series_reply (any_series_reading (cut_of text)) (marks_reply d) r s h.1 k.1

one_pattern_reply : (reading : Result Described (ℕ × UserKind)) (text : List ℕ) (r s : Reply) → OnPattern reading (PlannedReply text) r →
    OnPattern reading (PlannedReply text) s → r ≡ s
one_pattern_reply (Ok d) text r s h k = one_planned_reply text d r s h k
one_pattern_reply (Err bad) text r s h k = h ∙ sym k

pub one_mark_reply : OneMarkReply
one_mark_reply bytes r s h k = one_pattern_reply (pattern_reading (model_part bytes)) (rest_part bytes) r s h k

-- what is said of an input

module _ (bytes : List ℕ) (r : Reply) (h : MarkReply bytes r) where
  -- what is said of an input, by how its pattern was read
  read_as : (reading : Result Described (ℕ × UserKind)) → pattern_reading (model_part bytes) ≡ reading → OnPattern reading (PlannedReply (rest_part bytes)) r
  read_as reading e = subst (λ (x : Result Described (ℕ × UserKind)). OnPattern x (PlannedReply (rest_part bytes)) r) e h

  module _ (d : Described) (read : pattern_reading (model_part bytes) ≡ Ok d) where
    says_closure : (w : List Letter) → IsRefused (unplanned_in d) w → r ≡ refused_closure w
    says_closure w is = one_planned_reply (rest_part bytes) d r (refused_closure w) (read_as (Ok d) read) (inl (inl (w, is, refl)))

    says_toomany : IsTooMany (unplanned_in d) → r ≡ refused_toomany
    says_toomany is = one_planned_reply (rest_part bytes) d r refused_toomany (read_as (Ok d) read) (inl (inr (is, refl)))

    series_reply : PlannedReply (rest_part bytes) d r → IsPlanned d → MarkedReply (rest_part bytes) d r
    series_reply (inl k) planned = absurd (not_planned d r k planned)
    series_reply (inr k) planned = k.1

    says_occurrences : (xs : List ℤ) (s : Reply) → s ≡ marks_reply d xs → SaysOccurrences d xs s
    says_occurrences xs s given =
        let found = occurrence_ranges d.expression d.b d.a (signature_of xs) in
        record {
          ranges = found;
          are = are_ranges d.expression d.b d.a (signature_of xs);
          text = ap (λ (x : Reply). x.text) given;
          names = λ cell. holders cell found;
          done = ap (λ (x : Reply). x.status) given;
        }

  pub says_marks : SaysMarks bytes r
  says_marks = record {
    pattern = λ line kind e. read_as (Err (line, kind)) e;
    closure = λ d w read is. says_closure d read w is;
    toomany = λ d read is. says_toomany d read is;
    occurrences = λ d read planned.
        series_as (any_series_reading (cut_of (rest_part bytes))) (λ xs s. s ≡ marks_reply d xs) (SaysOccurrences d) (says_occurrences d read) r
        (series_reply d read (read_as (Ok d) read) planned);
  }
