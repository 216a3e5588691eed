-- An input of `verify` has one end, and one first line that fails.
use Rattle.std.proofs.Common.{◌≡◌, ℕ, suc, ◌+◌, ◌<◌, ◌≤◌, ◌^◌, Bool, true, false, cond, inl, inr, Option, Some, None, Ok, Err, List, [], ◌∷◌, ◌++◌, length, map, refl, sym, ap, ◌∙◌, subst, arith}
use Rattle.std.specs.Prelude.{Result, filter, unwrap_or}
use Rattle.std.specs.List.{concat}
use Rattle.std.proofs.lemmas.List.{length-append, length-map}
use Rattle.ts_base.specs.Words.{strict_lines}
use Rattle.ts_base.proofs.WordLaws.{lines_are, lines_few}
use Rattle.ts_token.specs.Halves.{after_front, halves, is_separator}
use Rattle.ts_certificate.specs.declared.state.State.TheVariants.{Start}
use Rattle.ts_certificate.specs.declared.stop.CertStop.{CertStop}
use Rattle.ts_certificate.specs.Grammar.{CertLine, line_text}
use Rattle.ts_certificate.specs.Reading.{answers_to, fresh}
use Rattle.ts_certificate.proofs.CallerLemmas.{lines_again}
use Rattle.ts_model.specs.declared.error.ModelKind.{ModelKind}
use Rattle.ts_model.specs.declared.model.Need.TheVariants.{List as Listed}
use Rattle.ts_model.specs.ModelReading.{model_reading}
use Rattle.ts_model.specs.ModelParts.{ModelParts}
use Rattle.ts_filter.proofs.LineLaws.{fails_once, fails_not_leads}
use Rattle.ts_filter.specs.Lines.{IsOutcome, Stand, first_stand}
use Rattle.ts_filter.specs.RefutedWorseDrop.{Spans}
use Rattle.ts_spans.specs.Machines.{spans_in}
use Rattle.ts_model.specs.ModelTexts.{has_lf}
use Rattle.ts_checker.specs.declared.verdict.Verdict.TheVariants.{Accepted}
use Rattle.ts_checker.specs.declared.verify_end.VerifyEnd.{VerifyEnd}
use Rattle.ts_checker.specs.declared.verify_end.VerifyEnd.TheVariants.{Model, Verdict as Judged}
use Rattle.ts_checker.specs.Laws.{OneEnd, OneFailed}
use Rattle.ts_checker.specs.Verdicts.{IsVerdict}
use Rattle.ts_checker.specs.Verified.{BreaksFirst, FailsFirst, FailsIn, certificate_lines, ended_lines, model_part, rest_part}
use Rattle.ts_checker.proofs.Verdicts.{not_against, one_verdict, same_stop}

-- a certificate has no more lines than its input has bytes

rest_step : (t : Bool) (line : List ℕ) (lines : List (List ℕ)) → length (unwrap_or (halves lines).rest []) ≤ length (concat lines) →
    length (unwrap_or (cond t (record { model = []; rest = Some (concat lines) }) (after_front line (halves lines))).rest []) ≤ length (line ++ concat lines)
rest_step true line lines h = let size = length-append line (concat lines) in omega (arith, size)
rest_step false line lines h = let size = length-append line (concat lines) in omega (arith, size, h)

rest_short : (lines : List (List ℕ)) → length (unwrap_or (halves lines).rest []) ≤ length (concat lines)
rest_short [] = omega arith
rest_short (line ∷ lines) = rest_step (is_separator line) line lines (rest_short lines)

lines_short : (bytes : List ℕ) → length (certificate_lines bytes) ≤ length bytes
lines_short bytes =
    let a = lines_few (rest_part bytes) in
    let b = rest_short (strict_lines bytes) in
    let c = ap length (lines_are bytes) in
    omega (arith, a, b, c)

kept_few : (lines : List (List ℕ)) → length (filter has_lf lines) ≤ length lines
kept_few [] = omega arith
kept_few (l ∷ ls) =
    let more = kept_few ls in
    elim (has_lf l) as (λ t. length (cond t (l ∷ filter has_lf ls) (filter has_lf ls)) ≤ suc (length ls)) [
      | true ↦ omega (arith, more)
      | false ↦ omega (arith, more)
    ]

-- one end

abbrev end_by : Result ModelParts (ℕ × ModelKind) → VerifyEnd
end_by (Ok m) = Judged Accepted
end_by (Err bad) = Model bad.0 bad.1

pub one_end : OneEnd
one_end bytes (Model line kind) (Model number what) short h k = ap end_by (sym h ∙ k)
one_end bytes (Model line kind) (Judged w) short h k =
    let wrong : ◌≡◌ {A = Result ModelParts (ℕ × ModelKind)} (Err (line, kind)) (Ok k.model) = sym h ∙ k.states in cc
one_end bytes (Judged v) (Model line kind) short h k =
    let wrong : ◌≡◌ {A = Result ModelParts (ℕ × ModelKind)} (Err (line, kind)) (Ok h.model) = sym k ∙ h.states in cc
one_end bytes (Judged v) (Judged w) short h k =
    let same : ◌≡◌ {A = Result ModelParts (ℕ × ModelKind)} (Ok k.model) (Ok h.model) = sym k.states ∙ h.states in
    let model : k.model ≡ h.model = cc in
    let few = lines_short bytes in
    ap Judged
    (one_verdict h.model (certificate_lines bytes) v w (omega (arith, few, short)) h.shown.is
    (subst (λ (m : ModelParts). IsVerdict m (certificate_lines bytes) w) model k.shown.is))

-- the texts are those of one list of lines

same_first : (l k : CertLine) (xs ys : List (Result CertLine CertStop)) → Ok l ∷ xs ≡ Ok k ∷ ys → (l ≡ k) × (xs ≡ ys)
same_first l k xs ys e = (cc, cc)

same_lines : (ls ks : List CertLine) → ◌≡◌ {A = List (Result CertLine CertStop)} (map Ok ls) (map Ok ks) → ls ≡ ks
same_lines [] [] e = refl
same_lines [] (k ∷ ks) e = cc
same_lines (l ∷ ls) [] e = cc
same_lines (l ∷ ls) (k ∷ ks) e =
    let each = same_first l k (map Ok ls) (map Ok ks) e in
    ap (λ (z : CertLine). z ∷ ls) each.0 ∙ ap (λ (z : List CertLine). k ∷ z) (same_lines ls ks each.1)

module _ (m : ModelParts) (s : Spans) where
  found_once : (ls : List CertLine) (t u : Stand) (a b : Option ℕ) → IsOutcome m s ls t a → IsOutcome m s ls u b → a ≡ b
  found_once ls t u None None p q = refl
  found_once ls t u None (Some n) p q = absurd (fails_not_leads m s (first_stand m) t ls n q p)
  found_once ls t u (Some n) None p q = absurd (fails_not_leads m s (first_stand m) u ls n p q)
  found_once ls t u (Some k) (Some n) p q = ap (λ (z : ℕ). Some z) (fails_once m s (first_stand m) ls k n p q)

-- one first line that breaks its rule

lines_of_texts : (texts : List (List ℕ)) (ls : List CertLine) → texts ≡ map line_text ls → length texts < 2 ^ 62 → 0 + length ls < 2 ^ 63
lines_of_texts texts ls are short = let n = ap length are ∙ length-map ls line_text in omega (arith, n, short)

broken_once : (m : ModelParts) (texts : List (List ℕ)) (a b : Option ℕ) → length texts < 2 ^ 62 → BreaksFirst m texts a → BreaksFirst m texts b → a ≡ b
broken_once m texts a b short h k =
    let one = lines_again Start 1 h.lines (lines_of_texts texts h.lines h.are short) h.follow in
    let other = lines_again Start 1 k.lines (lines_of_texts texts k.lines k.are short) k.follow in
    let same = same_lines k.lines h.lines (sym other.1 ∙ ap (answers_to fresh) (sym k.are ∙ h.are) ∙ one.1) in
    found_once m (spans_in m) h.lines h.stand k.stand a b h.found
    (subst (λ (ls : List CertLine). IsOutcome m (spans_in m) ls k.stand b) same k.found)

failed_once : (m : ModelParts) (texts : List (List ℕ)) (a b : Option ℕ) → length texts < 2 ^ 62 → FailsFirst m texts a → FailsFirst m texts b → a ≡ b
failed_once m texts a b short (inl h) (inl k) = h.2 ∙ ap (λ (n : ℕ). Some n) (same_stop texts short h.0 k.0 (inl h.1) (inl k.1)) ∙ sym k.2
failed_once m texts a b short (inl h) (inr k) = absurd (not_against texts short k.lines h.0 k.are k.follow h.1)
failed_once m texts a b short (inr h) (inl k) = absurd (not_against texts short h.lines k.0 h.are h.follow k.1)
failed_once m texts a b short (inr h) (inr k) = broken_once m texts a b short h k

failed_in : (found : Result ModelParts (ℕ × ModelKind)) (texts : List (List ℕ)) (a b : Option ℕ) → length texts < 2 ^ 62 → FailsIn found texts a →
    FailsIn found texts b → a ≡ b
failed_in (Ok m) texts a b short h k = failed_once m texts a b short h k
failed_in (Err bad) texts a b short h k = h ∙ sym k

pub one_failed : OneFailed
one_failed bytes a b short h k =
    let few = lines_short bytes in
    let ended = kept_few (certificate_lines bytes) in
    failed_in (model_reading Listed (model_part bytes)) (ended_lines (rest_part bytes)) a b (omega (arith, few, ended, short)) h k
