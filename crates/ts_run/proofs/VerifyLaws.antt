-- The reply of `verify`: there is one, it is `accepted` exactly where the certificate is accepted, and what is accepted is true.
use Rattle.std.proofs.Common.{◌≡◌, ℕ, ◌^◌, ◌<◌, Some, Ok, Err, List, length, refl, sym, ◌∙◌, ap, subst, arith}
use Rattle.std.specs.Prelude.{Result}
use Rattle.ts_base.proofs.WordLaws.{lines_few}
use Rattle.ts_certificate.specs.Certificate.{Cert}
use Rattle.ts_model.specs.declared.error.ModelKind.{ModelKind}
use Rattle.ts_model.specs.declared.model.Need.TheVariants.{List as Listed}
use Rattle.ts_model.specs.ModelReading.{model_reading}
use Rattle.ts_model.specs.ModelParts.{ModelParts}
use Rattle.ts_filter.specs.Accepts.{Accepts}
use Rattle.ts_filter.specs.Holds.{Holds}
use Rattle.ts_filter.specs.Lines.{IsFirstFailing}
use Rattle.ts_checker.specs.declared.verdict.Verdict.{Verdict}
use Rattle.ts_checker.specs.declared.verdict.Verdict.TheVariants.{Accepted, Rejected, Refused as RefusedAt}
use Rattle.ts_spans.specs.Machines.{spans_in}
use Rattle.ts_checker.specs.Verdicts.{IsRefused, IsVerdict}
use Rattle.ts_checker.specs.Verified.{certificate_lines, model_part, rest_part}
use Rattle.ts_checker.proofs.Verdicts.{one_of, one_verdict}
use Rattle.ts_run.specs.AnswerTexts.{DoneIsAccepted, IsOffered, OneVerifyReply, VerifyReply}
use Rattle.ts_run.specs.Refusals.{OnReading}
use Rattle.ts_run.specs.Headline.{IsShown, SaysVerdict}
use Rattle.ts_run.specs.Reply.{Reply}
use Rattle.ts_run.specs.Verified.{IsVerified, refused_certificate, rejected_certificate, verdict_reply}
use Rattle.ts_run.specs.declared.status.Status.TheVariants.{Done, No, Refused}
use Rattle.ts_run.proofs.CheckLaws.{one_reading_reply}
use Rattle.ts_run.proofs.Inputs.{parts_within}

few_lines : (bytes : List ℕ) → length bytes < 2 ^ 62 → length (certificate_lines bytes) < 2 ^ 62
few_lines bytes few =
    let within = (parts_within bytes).rest in
    let lines = lines_few (rest_part bytes) in
    omega (arith, few, within, lines)

-- there is one reply

one_verified : (texts : List (List ℕ)) → length texts < 2 ^ 62 → (m : ModelParts) (r s : Reply) → IsVerified texts m r → IsVerified texts m s → r ≡ s
one_verified texts few m r s h k = h.reply ∙ ap verdict_reply (one_verdict m texts h.verdict k.verdict few h.shown.is k.shown.is) ∙ sym k.reply

pub one_verify_reply : OneVerifyReply
one_verify_reply bytes r s few h k =
    one_reading_reply (model_reading Listed (model_part bytes)) (IsVerified (certificate_lines bytes))
    (one_verified (certificate_lines bytes) (few_lines bytes few)) r s h k

-- the status

done_accepted : (v : Verdict) (r : Reply) → r ≡ verdict_reply v → r.status ≡ Done → v ≡ Accepted
done_accepted Accepted r is e = refl
done_accepted (Rejected n) r is e = let wrong : No ≡ Done = sym (ap (λ (x : Reply). x.status) is) ∙ e in cc
done_accepted (RefusedAt n) r is e = let wrong : Refused ≡ Done = sym (ap (λ (x : Reply). x.status) is) ∙ e in cc

accepted_done : (v : Verdict) (r : Reply) → r ≡ verdict_reply v → v ≡ Accepted → r.status ≡ Done
accepted_done v r is e = ap (λ (x : Reply). x.status) (is ∙ ap verdict_reply e)

verified_given : (bytes : List ℕ) (m : ModelParts) (c : Cert) (r : Reply) → IsOffered bytes m c → VerifyReply bytes r → IsVerified (certificate_lines bytes) m r
verified_given bytes m c r offered h =
    subst (λ (x : Result ModelParts (ℕ × ModelKind)). OnReading x (IsVerified (certificate_lines bytes)) r) offered.model h

pub done_is_accepted : DoneIsAccepted
done_is_accepted bytes m c r few offered h =
    let texts = certificate_lines bytes in
    let short = few_lines bytes few in
    let v = verified_given bytes m c r offered h in (
      λ e. let a = subst (λ z. IsVerdict m texts z) (done_accepted v.verdict r v.reply e) v.shown.is in
          subst (λ z. Accepts m (spans_in m) z) (one_of texts short a.0 c a.1 offered.certificate) a.2,
      λ a. accepted_done v.verdict r v.reply (one_verdict m texts v.verdict Accepted short v.shown.is (c, offered.certificate, a)),
    )

-- of an accepted certificate there is one reply
pub accepted_reply : (bytes : List ℕ) (m : ModelParts) (c : Cert) (r : Reply) → length bytes < 2 ^ 62 → IsOffered bytes m c → Accepts m (spans_in m) c →
    VerifyReply bytes r → r ≡ verdict_reply Accepted
accepted_reply bytes m c r few offered accepts h =
    let texts = certificate_lines bytes in
    let v = verified_given bytes m c r offered h in
    v.reply ∙ ap verdict_reply (one_verdict m texts v.verdict Accepted (few_lines bytes few) v.shown.is (c, offered.certificate, accepts))

-- what is said of an input

record IsDone (reading : Result ModelParts (ℕ × ModelKind)) (texts : List (List ℕ)) (r : Reply) : Type 0 where
  model : ModelParts
  states : reading ≡ Ok model
  verified : IsVerified texts model r

done_reading : (reading : Result ModelParts (ℕ × ModelKind)) (texts : List (List ℕ)) (r : Reply) → OnReading reading (IsVerified texts) r → r.status ≡ Done →
    IsDone reading texts r
done_reading (Ok m) texts r h e = record { model = m; states = refl; verified = h }
done_reading (Err bad) texts r h e = let refused = sym e ∙ ap (λ (x : Reply). x.status) h in cc

shown_by : (bytes : List ℕ) (r : Reply) → length bytes < 2 ^ 62 → VerifyReply bytes r → r.status ≡ Done → IsShown bytes
shown_by bytes r few h e =
    let texts = certificate_lines bytes in
    let d = done_reading (model_reading Listed (model_part bytes)) texts r h e in
    let v = d.verified in
    let accepted = done_accepted v.verdict r v.reply e in
    let a = subst (λ z. IsVerdict d.model texts z) accepted v.shown.is in
    let t = v.shown.holds accepted in
    record {
      model = d.model;
      states = ap Some d.states;
      certificate = a.0;
      lines = a.1;
      accepted = a.2;
      holds = subst (λ z. Holds d.model z) (one_of texts (few_lines bytes few) t.0 a.0 t.1 a.1) t.2;
    }

rejected_given : (bytes : List ℕ) (r : Reply) → length bytes < 2 ^ 62 → VerifyReply bytes r → (m : ModelParts) (c : Cert) (line : ℕ) → IsOffered bytes m c →
    IsFirstFailing m (spans_in m) c line → r ≡ rejected_certificate line
rejected_given bytes r few h m c line offered failing =
    let v = verified_given bytes m c r offered h in
    v.reply ∙ ap verdict_reply (one_verdict m (certificate_lines bytes) v.verdict (Rejected line) (few_lines bytes few) v.shown.is
    (c, offered.certificate, failing))

refused_given : (bytes : List ℕ) (r : Reply) → length bytes < 2 ^ 62 → VerifyReply bytes r → (m : ModelParts) (line : ℕ) →
    model_reading Listed (model_part bytes) ≡ Ok m → IsRefused (certificate_lines bytes) line → r ≡ refused_certificate line
refused_given bytes r few h m line states against =
    let v = subst (λ (x : Result ModelParts (ℕ × ModelKind)). OnReading x (IsVerified (certificate_lines bytes)) r) states h in
    v.reply ∙ ap verdict_reply (one_verdict m (certificate_lines bytes) v.verdict (RefusedAt line) (few_lines bytes few) v.shown.is against)

pub says_verdict : (bytes : List ℕ) (r : Reply) → length bytes < 2 ^ 62 → VerifyReply bytes r → SaysVerdict bytes r
says_verdict bytes r few h = record {
  shown = λ e. shown_by bytes r few h e;
  exact = λ m c offered. done_is_accepted bytes m c r few offered h;
  rejects = λ m c line offered failing. rejected_given bytes r few h m c line offered failing;
  refuses = λ m line states against.
      let read : model_reading Listed (model_part bytes) ≡ Ok m = cc in refused_given bytes r few h m line read against;
}
