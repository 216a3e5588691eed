-- The certificates of `maximise`, `minimise` and `generate`: there is one, and what it says.
use Rattle.std.proofs.Common.{◌≡◌, ℕ, ◌<◌, ◌≤◌, ℤ, Bool, true, false, cond, Ok, Err, List, length, refl, sym, ◌∙◌, ap, subst}
use Rattle.std.specs.Prelude.{◌==◌, Result}
use Rattle.ts_base.specs.declared.goal.Goal.{Goal}
use Rattle.ts_base.specs.Limits.{most_checked, most_listed, most_model_bytes}
use Rattle.ts_token.specs.Text.{cut_of}
use Rattle.ts_certificate.specs.declared.certificate.Claim.{Claim}
use Rattle.ts_certificate.specs.declared.certificate.Claim.TheVariants.{Best as BestIs, Infeasible, BudgetBest, BudgetNone, Full, All, BudgetList}
use Rattle.ts_certificate.specs.declared.certificate.TreeLine.{TreeLine}
use Rattle.ts_certificate.specs.Certificate.{Cert, certificate_text, checked_count, open_count}
use Rattle.ts_model.specs.declared.error.ModelKind.{ModelKind}
use Rattle.ts_model.specs.declared.model.Need.TheVariants.{List as NeedsList, Best as NeedsBest}
use Rattle.ts_model.specs.ModelReading.{model_reading}
use Rattle.ts_model.specs.ModelParts.{ModelParts}
use Rattle.ts_model.proofs.FitLaws.{limits_stated, whole_stated}
use Rattle.ts_spans.specs.Machines.{spans_in}
use Rattle.ts_search.specs.Laws.{IsBudget}
use Rattle.ts_search.specs.LineOf.{Contest, contest_for}
use Rattle.ts_search.specs.Listed.{IsListedBy}
use Rattle.ts_search.specs.Solved.{IsSolvedBy}
use Rattle.ts_search.proofs.Closing.{budget_is_enough, list_budget_is_enough, one_listed, one_solved}
use Rattle.ts_search.proofs.OfProgram.{are_right}
use Rattle.ts_run.specs.AnswerTexts.{BestReply, ListReply, OneBestReply, OneListReply}
use Rattle.ts_run.specs.Refusals.{OnReading}
use Rattle.ts_run.specs.Certified.{IsBest, IsListing, IsWritten, claim_status}
use Rattle.ts_run.specs.Headline.{SaysBest, SaysList}
use Rattle.ts_run.specs.Quantities.{IsWithin}
use Rattle.ts_run.specs.Reply.{Reply}
use Rattle.ts_run.specs.declared.status.Status.TheVariants.{Done, No, Budget}
use Rattle.ts_run.proofs.CertifiedSizes.{best_sent, goes_to_verify, list_sent}

-- one certificate has one text

same_reply : (c d : Cert) (r s : Reply) → c ≡ d → IsWritten c r → IsWritten d s → r ≡ s
same_reply c d r s same h k =
    let text = h.text ∙ ap certificate_text same ∙ sym k.text in
    let status = h.status ∙ ap (λ (z : Cert). claim_status z.claim) same ∙ sym k.status in (λ i. record { text = text i; status = status i })

best_reply : (goal : Goal) (lines : ℕ) (bytes : List ℕ) (reading : Result ModelParts (ℕ × ModelKind)) → model_reading NeedsBest bytes ≡ reading →
    (r s : Reply) → OnReading reading (IsBest goal lines) r → OnReading reading (IsBest goal lines) s → r ≡ s
best_reply goal lines bytes (Ok m) read r s h k =
    let limits = limits_stated NeedsBest (cut_of bytes) m read in
    let right = are_right m (whole_stated NeedsBest (cut_of bytes) m read) limits.box in
    same_reply h.certificate k.certificate r s
    (one_solved m (spans_in m) goal lines h.certificate k.certificate right (limits.objective refl) h.is k.is) h.written k.written
best_reply goal lines bytes (Err bad) read r s h k = h ∙ sym k

pub one_best_reply : OneBestReply
one_best_reply goal lines bytes r s h k = best_reply goal lines bytes (model_reading NeedsBest bytes) refl r s h k

list_reply : (count lines : ℕ) (bytes : List ℕ) (reading : Result ModelParts (ℕ × ModelKind)) → model_reading NeedsList bytes ≡ reading →
    (r s : Reply) → OnReading reading (IsListing count lines) r → OnReading reading (IsListing count lines) s → r ≡ s
list_reply count lines bytes (Ok m) read r s h k =
    let right = are_right m (whole_stated NeedsList (cut_of bytes) m read) (limits_stated NeedsList (cut_of bytes) m read).box in
    same_reply h.certificate k.certificate r s
    (one_listed m (spans_in m) count lines h.certificate k.certificate right h.is k.is) h.written k.written
list_reply count lines bytes (Err bad) read r s h k = h ∙ sym k

pub one_list_reply : OneListReply
one_list_reply count lines bytes r s h k = list_reply count lines bytes (model_reading NeedsList bytes) refl r s h k

-- a claim of a spent budget

spent : (claim : Claim) → claim_status claim ≡ Budget → IsBudget claim
spent (BestIs v) e = absurd (cc)
spent Infeasible e = absurd (cc)
spent (BudgetBest v) e = tt
spent BudgetNone e = tt
spent (Full n) e = absurd (cc)
spent (All n) e = go (n == 0) e
  where
    go : (b : Bool) → cond b No Done ≡ Budget → ⊥
    go true h = cc
    go false h = cc
spent (BudgetList n) e = tt

-- the lines and the open boxes of a claim of a spent budget

abbrev IsSpent : ℕ → List TreeLine → Type 0
IsSpent lines tree = (checked_count tree ≡ lines) × (0 < open_count tree)

solved_spent : (c : Contest) (lines : ℕ) (claim : Claim) (series : List (List ℤ)) (tree : List TreeLine) → IsSolvedBy c lines claim series tree →
    claim_status claim ≡ Budget → IsSpent lines tree
solved_spent c lines (BestIs v) series tree h e = absurd (spent (BestIs v) e)
solved_spent c lines Infeasible series tree h e = absurd (spent Infeasible e)
solved_spent c lines (BudgetBest v) series tree h e = (h.2, h.3)
solved_spent c lines BudgetNone series tree h e = (h.1, h.2)
solved_spent c lines (Full n) series tree h e = absurd h
solved_spent c lines (All n) series tree h e = absurd h
solved_spent c lines (BudgetList n) series tree h e = absurd h

listed_spent : (m : ModelParts) (count lines : ℕ) (claim : Claim) (series : List (List ℤ)) (tree : List TreeLine) → IsListedBy m count lines claim series tree →
    claim_status claim ≡ Budget → IsSpent lines tree
listed_spent m count lines (BestIs v) series tree h e = absurd h
listed_spent m count lines Infeasible series tree h e = absurd h
listed_spent m count lines (BudgetBest v) series tree h e = absurd h
listed_spent m count lines BudgetNone series tree h e = absurd h
listed_spent m count lines (Full n) series tree h e = absurd (spent (Full n) e)
listed_spent m count lines (All n) series tree h e = absurd (spent (All n) e)
listed_spent m count lines (BudgetList n) series tree h e = (h.2, h.3)

-- what is said of a model

pub says_best : (goal : Goal) (lines : ℕ) (bytes : List ℕ) (m : ModelParts) (r : Reply) → IsWithin 1 most_checked lines → length bytes ≤ most_model_bytes →
    model_reading NeedsBest bytes ≡ Ok m → BestReply goal lines bytes r → SaysBest goal lines m bytes r
says_best goal lines bytes m r range small read h =
    let b : IsBest goal lines m r = subst (λ (x : Result ModelParts (ℕ × ModelKind)). OnReading x (IsBest goal lines) r) read h in
    let c = b.certificate in
    let sought = contest_for m (spans_in m) goal in
    let whole = whole_stated NeedsBest (cut_of bytes) m read in
    let limits = limits_stated NeedsBest (cut_of bytes) m read in
    let right = are_right m whole limits.box in
    record {
      says = record {
        certificate = c;
        is = b.is;
        only = λ other k. one_solved m (spans_in m) goal lines other c right (limits.objective refl) k b.is;
        written = b.written;
        spent = λ e. solved_spent sought lines c.claim c.series c.tree b.is.claim (sym b.written.status ∙ e);
        enough = λ many e. budget_is_enough m (spans_in m) goal lines c right many b.is (spent c.claim (sym b.written.status ∙ e));
        verified = goes_to_verify m NeedsBest c whole limits.box b.is.accepts (best_sent m goal lines c whole limits range b.is) refl bytes small read;
      };
      best = λ v e. let k = subst (λ z. IsSolvedBy sought lines z c.series c.tree) e b.is.claim in (k.0, k.1, k.2, k.3);
      infeasible = λ e. (subst (λ z. IsSolvedBy sought lines z c.series c.tree) e b.is.claim).1;
    }

pub says_list : (count lines : ℕ) (bytes : List ℕ) (m : ModelParts) (r : Reply) → IsWithin 1 most_listed count → IsWithin 1 most_checked lines →
    length bytes ≤ most_model_bytes → model_reading NeedsList bytes ≡ Ok m → ListReply count lines bytes r → SaysList count lines m bytes r
says_list count lines bytes m r asked range small read h =
    let b : IsListing count lines m r = subst (λ (x : Result ModelParts (ℕ × ModelKind)). OnReading x (IsListing count lines) r) read h in
    let c = b.certificate in
    let whole = whole_stated NeedsList (cut_of bytes) m read in
    let limits = limits_stated NeedsList (cut_of bytes) m read in
    let right = are_right m whole limits.box in
    record {
      says = record {
        certificate = c;
        is = b.is;
        only = λ other k. one_listed m (spans_in m) count lines other c right k b.is;
        written = b.written;
        spent = λ e. listed_spent m count lines c.claim c.series c.tree b.is.claim (sym b.written.status ∙ e);
        enough = λ many e. list_budget_is_enough m (spans_in m) count lines c right many b.is (spent c.claim (sym b.written.status ∙ e));
        verified = goes_to_verify m NeedsList c whole limits.box b.is.accepts (list_sent m count lines c whole limits asked range b.is) refl bytes small read;
      };
      first = b.is.first;
      all = λ n e. (subst (λ z. IsListedBy m count lines z c.series c.tree) e b.is.claim).2;
    }
