-- What a command wrote of a model goes to `verify`: after the bytes of the model, after a line `%%`.
use Rattle.std.specs.Prelude.{◌≡◌, ℕ, ◌+◌, ◌≤◌, List, [], ◌∷◌, ◌++◌, codes, length, if◌then◌else◌}
use Rattle.ts_base.specs.Limits.{most_verify_bytes}
use Rattle.ts_base.specs.Words.{is_lf}
use Rattle.ts_certificate.specs.Certificate.{Cert, ReadsAs, certificate_text}
use Rattle.ts_model.specs.ModelParts.{ModelParts}
use Rattle.ts_filter.specs.Holds.{Holds}
use Rattle.ts_checker.specs.declared.verdict.Verdict.TheVariants.{Accepted}
use Rattle.ts_run.specs.AnswerTexts.{IsOffered, VerifyReply}
use Rattle.ts_run.specs.Reply.{Reply}
use Rattle.ts_run.specs.Verified.{verdict_reply}

-- the bytes with the LF that their last line may lack
abbrev pub end_line : List ℕ → List ℕ
end_line [] = []
end_line (b ∷ []) = if is_lf b then b ∷ [] else b ∷ 10 ∷ []
end_line (b ∷ c ∷ bs) = b ∷ end_line (c ∷ bs)

-- the text after the bytes of a model, after a line `%%`
abbrev pub verify_input : List ℕ → List ℕ → List ℕ
verify_input bytes text = end_line bytes ++ (codes "%%\n" ++ text)

-- the text of a certificate goes to `verify` after the bytes of its model: it is read as the same certificate; the two
-- together fit the limit, state that model, have that certificate and are answered `accepted`; and the claim is true
pub record GoesToVerify (m : ModelParts) (bytes : List ℕ) (c : Cert) : Type 0 where
  pub read : ReadsAs (certificate_text c) c
  pub fits : length bytes + 4 + length (certificate_text c) ≤ most_verify_bytes
  pub offered : IsOffered (verify_input bytes (certificate_text c)) m c
  pub accepted : (r : Reply) → VerifyReply (verify_input bytes (certificate_text c)) r → r ≡ verdict_reply Accepted
  pub holds : Holds m c
