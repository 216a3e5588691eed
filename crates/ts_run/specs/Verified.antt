-- What `verify` says of a certificate: the verdict on its lines, in words.
use Rattle.std.specs.Prelude.{ℕ, ◌≡◌, List, ◌++◌, codes}
use Rattle.std.specs.Fmt.{decimal}
use Rattle.ts_base.specs.Text.{line}
use Rattle.ts_model.specs.ModelParts.{ModelParts}
use Rattle.ts_checker.specs.declared.verdict.Verdict.{Verdict}
use Rattle.ts_checker.specs.declared.verdict.Verdict.TheVariants.{Accepted, Rejected, Refused as RefusedAt}
use Rattle.ts_checker.specs.Verified.{IsShownBy}
use Rattle.ts_run.specs.Reply.{Reply}
use Rattle.ts_run.specs.declared.status.Status.{Status}
use Rattle.ts_run.specs.declared.status.Status.TheVariants.{Done, No, Refused}

-- words with the number of a line
abbrev pub line_reply : List ℕ → ℕ → Status → Reply
line_reply words number status = record { text = line (words ++ decimal number); status = status }

-- the line that breaks its rule, and the line that is against the grammar, are named
abbrev pub rejected_certificate : ℕ → Reply
rejected_certificate number = line_reply (codes "rejected line ") number No

abbrev pub refused_certificate : ℕ → Reply
refused_certificate number = line_reply (codes "refused certificate line ") number Refused

-- the verdict in words
abbrev pub verdict_reply : Verdict → Reply
verdict_reply Accepted = record { text = codes "accepted\n"; status = Done }
verdict_reply (Rejected number) = rejected_certificate number
verdict_reply (RefusedAt number) = refused_certificate number

-- the reply is a verdict that is shown of the model and these lines, in words
pub record IsVerified (texts : List (List ℕ)) (m : ModelParts) (r : Reply) : Type 0 where
  pub verdict : Verdict
  pub shown : IsShownBy texts m verdict
  pub reply : r ≡ verdict_reply verdict
