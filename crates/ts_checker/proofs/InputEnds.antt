-- The end of an input of `verify`, and its first failing line, by what is known of the input so far.
use Rattle.std.proofs.Common.{◌≡◌, ℕ, inr, Option, Some, None, Ok, Err, List, [], ◌++◌, refl, sym, ap, ◌∙◌, subst}
use Rattle.std.specs.Prelude.{Result, unwrap_or}
use Rattle.ts_base.specs.Words.{strict_lines}
use Rattle.ts_token.specs.Halves.{Halves, halves_of}
use Rattle.ts_model.specs.declared.error.ModelKind.{ModelKind}
use Rattle.ts_model.specs.declared.model.Need.TheVariants.{List as Listed}
use Rattle.ts_model.specs.ModelReading.{model_reading}
use Rattle.ts_model.specs.ModelParts.{ModelParts}
use Rattle.ts_filter.specs.Lines.{first_stand}
use Rattle.ts_checker.specs.declared.judging.Judging.{Judging as AtWork}
use Rattle.ts_model.specs.declared.model_text.ModelText.{ModelText}
use Rattle.ts_model.specs.ModelTexts.{EndsModel, IsInModel}
use Rattle.ts_model.proofs.ModelTexts.{nothing_behind}
use Rattle.ts_checker.specs.declared.opened_model.OpenedModel.{OpenedModel}
use Rattle.ts_checker.specs.declared.opened_model.OpenedModel.TheVariants.{Refused, Judging}
use Rattle.ts_checker.specs.declared.verify_end.VerifyEnd.{VerifyEnd}
use Rattle.ts_checker.specs.declared.verify_end.VerifyEnd.TheVariants.{Model, Verdict}
use Rattle.ts_checker.specs.Feeding.{EndsOpened, IsBehind, IsOpened, OpenedFails}
use Rattle.ts_checker.specs.Verified.{FailsFirst, FailsIn, IsFailed, IsShownBy, IsVerifyEnd, ended_lines, model_part, rest_part}

-- the model has ended

module _ (bytes text front rest : List ℕ) (whole : bytes ≡ front ++ rest) (ends : EndsModel text front) where
  cut : halves_of bytes ≡ record { model = text; rest = Some rest }
  cut = ap halves_of whole ∙ ends rest

  model_is : model_part bytes ≡ text
  model_is = ap (λ (h : Halves). h.model) cut

  rest_is : rest_part bytes ≡ rest
  rest_is = ap (λ (h : Halves). unwrap_or h.rest []) cut

  reads : (found : Result ModelParts (ℕ × ModelKind)) → model_reading Listed text ≡ found → model_reading Listed (model_part bytes) ≡ found
  reads found is = ap (model_reading Listed) model_is ∙ is

pub ends_behind : (bytes : List ℕ) (o : OpenedModel) (end : VerifyEnd) → IsBehind bytes o → EndsOpened o end → IsVerifyEnd bytes end
ends_behind bytes (Refused n kind) (Model number what) h t =
    reads bytes h.text h.front h.rest h.parts h.ends (Err (n, kind)) h.reading ∙ ap (λ (k : ℕ). Err (k, kind)) (sym t.0)
    ∙ ap (λ (k : ModelKind). Err (number, k)) (sym t.1)
ends_behind bytes (Refused n kind) (Verdict v) h t = absurd t
ends_behind bytes (Judging j) (Model number what) h t = absurd t
ends_behind bytes (Judging j) (Verdict v) h t = record {
  model = j.checker.model;
  states = reads bytes h.text h.front h.rest h.parts h.ends (Ok j.checker.model) h.reading;
  shown = subst (λ (x : List ℕ). IsShownBy (strict_lines x) j.checker.model v) (sym (rest_is bytes h.text h.front h.rest h.parts h.ends))
      (t h.rest h.read);
}

-- the model ends with the input

ends_at_once : (bytes : List ℕ) (o : OpenedModel) (end : VerifyEnd) → rest_part bytes ≡ [] → IsOpened (model_part bytes) o → EndsOpened o end →
    IsVerifyEnd bytes end
ends_at_once bytes (Refused n kind) (Model number what) none is t =
    is ∙ ap (λ (k : ℕ). Err (k, kind)) (sym t.0) ∙ ap (λ (k : ModelKind). Err (number, k)) (sym t.1)
ends_at_once bytes (Refused n kind) (Verdict v) none is t = absurd t
ends_at_once bytes (Judging j) (Model number what) none is t = absurd t
ends_at_once bytes (Judging j) (Verdict v) none is t = record {
  model = j.checker.model;
  states = is.0;
  shown = subst (λ (x : List ℕ). IsShownBy (strict_lines x) j.checker.model v) (sym none) (t [] is.1);
}

pub ends_in_model : (bytes : List ℕ) (t : ModelText) (o : OpenedModel) (end : VerifyEnd) → IsInModel bytes t → IsOpened (model_part bytes) o →
    EndsOpened o end →
    IsVerifyEnd bytes end
ends_in_model bytes t o end h is e = ends_at_once bytes o end (nothing_behind bytes t h) is e

-- the first failing line

none_fails : (found : Result ModelParts (ℕ × ModelKind)) → FailsIn found [] None
none_fails (Ok m) = inr (record { lines = []; are = refl; follow = tt; stand = first_stand m; found = refl })
none_fails (Err bad) = refl

pub none_failed : (bytes : List ℕ) (t : ModelText) → IsInModel bytes t → IsFailed bytes None
none_failed bytes t h =
    subst (λ (x : List ℕ). FailsIn (model_reading Listed (model_part bytes)) (ended_lines x) None) (sym (nothing_behind bytes t h))
    (none_fails (model_reading Listed (model_part bytes)))

refused_failed : (bytes : List ℕ) (n : ℕ) (kind : ModelKind) → IsBehind bytes (Refused n kind) → IsFailed bytes None
refused_failed bytes n kind b =
    subst (λ (x : Result ModelParts (ℕ × ModelKind)). FailsIn x (ended_lines (rest_part bytes)) None)
    (sym (reads bytes b.text b.front b.rest b.parts b.ends (Err (n, kind)) b.reading)) refl

line_failed : (bytes : List ℕ) (j : AtWork) (failed : Option ℕ) → OpenedFails (Judging j) failed → IsBehind bytes (Judging j) → IsFailed bytes failed
line_failed bytes j failed fails c =
    subst (λ (x : Result ModelParts (ℕ × ModelKind)). FailsIn x (ended_lines (rest_part bytes)) failed)
    (sym (reads bytes c.text c.front c.rest c.parts c.ends (Ok j.checker.model) c.reading))
    (subst (λ (x : List ℕ). FailsFirst j.checker.model (ended_lines x) failed) (sym (rest_is bytes c.text c.front c.rest c.parts c.ends))
    (fails c.rest c.read))

pub behind_failed : (o : OpenedModel) (failed : Option ℕ) → OpenedFails o failed → (bytes : List ℕ) → IsBehind bytes o → IsFailed bytes failed
behind_failed (Refused n kind) failed fails bytes h = subst (IsFailed bytes) (sym fails) (refused_failed bytes n kind h)
behind_failed (Judging j) failed fails bytes h = line_failed bytes j failed fails h
