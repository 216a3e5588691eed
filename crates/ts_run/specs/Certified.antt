-- What `maximise`, `minimise` and `generate` write of a model: the text of a certificate, with the status of its claim.
use Rattle.std.specs.Prelude.{◌≡◌, ℕ, ◌==◌, if◌then◌else◌}
use Rattle.ts_base.specs.declared.goal.Goal.{Goal}
use Rattle.ts_certificate.specs.declared.certificate.Claim.{Claim}
use Rattle.ts_certificate.specs.declared.certificate.Claim.TheVariants.{Best, Infeasible, BudgetBest, BudgetNone}
use Rattle.ts_certificate.specs.declared.certificate.Claim.TheVariants.{Full, All, BudgetList}
use Rattle.ts_certificate.specs.Certificate.{Cert, certificate_text}
use Rattle.ts_model.specs.ModelParts.{ModelParts}
use Rattle.ts_spans.specs.Machines.{spans_in}
use Rattle.ts_search.specs.Listed.{IsListAnswer}
use Rattle.ts_search.specs.Solved.{IsSolution}
use Rattle.ts_run.specs.Reply.{Reply}
use Rattle.ts_run.specs.declared.status.Status.{Status}
use Rattle.ts_run.specs.declared.status.Status.TheVariants.{Done, No, Budget}

-- the status with which a certificate is written: `No` where nothing meets, and `Budget` where lines ran out
abbrev pub claim_status : Claim → Status
claim_status (Best v) = Done
claim_status Infeasible = No
claim_status (BudgetBest v) = Budget
claim_status BudgetNone = Budget
claim_status (Full count) = Done
claim_status (All count) = if count == 0 then No else Done
claim_status (BudgetList count) = Budget

-- the reply is the text of this certificate, with its status
pub record IsWritten (c : Cert) (r : Reply) : Type 0 where
  pub text : r.text ≡ certificate_text c
  pub status : r.status ≡ claim_status c.claim

-- the reply is the text of a certificate of this kind
pub record WritesOne (Is : Cert → Type 0) (r : Reply) : Type 0 where
  pub certificate : Cert
  pub is : Is certificate
  pub written : IsWritten certificate r

-- the reply to a model is a certificate that is solved by at most this many lines
abbrev pub IsBest : Goal → ℕ → ModelParts → Reply → Type 0
IsBest goal lines m r = WritesOne (IsSolution m (spans_in m) goal lines) r

-- the reply to a model is a certificate of a listing of up to this many series, by at most this many lines
abbrev pub IsListing : ℕ → ℕ → ModelParts → Reply → Type 0
IsListing count lines m r = WritesOne (IsListAnswer m (spans_in m) count lines) r
