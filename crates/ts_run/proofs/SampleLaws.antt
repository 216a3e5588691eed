-- What `sample` replies: its certificate is accepted, and no other claim comes than a best value or a spent budget.
use Rattle.std.proofs.Common.{◌≡◌, ℕ, ◌<◌, ◌≤◌, ℤ, Ok, Err, List, [], ◌∷◌, ◌++◌, length, map, get_or, refl, sym, ◌∙◌, ap, subst, arith}
use Rattle.std.specs.Prelude.{IfOk, Result}
use Rattle.ts_base.specs.declared.ext.Ext.{Ext}
use Rattle.ts_base.specs.declared.goal.Goal.TheVariants.{Minimise}
use Rattle.ts_base.specs.Limits.{most_cells, too_many}
use Rattle.ts_base.specs.Words.{strict_lines}
use Rattle.ts_base.proofs.WordLaws.{lines_few}
use Rattle.ts_automaton.specs.AutomatonRun.{AreCellValues}
use Rattle.ts_certificate.specs.declared.certificate.Claim.{Claim}
use Rattle.ts_certificate.specs.declared.certificate.Claim.TheVariants.{Best, Infeasible, BudgetBest, BudgetNone, Full, All, BudgetList}
use Rattle.ts_certificate.specs.declared.certificate.TreeLine.{TreeLine}
use Rattle.ts_certificate.specs.Certificate.{Cert, certificate_text, checked_count}
use Rattle.ts_certificate.proofs.CallerLemmas.{text_fits}
use Rattle.ts_model.specs.ModelParts.{ModelParts}
use Rattle.ts_spans.specs.Machines.{spans_in}
use Rattle.ts_search.specs.Laws.{IsBudget}
use Rattle.ts_search.specs.LineOf.{contest_for}
use Rattle.ts_search.specs.Solved.{IsSolvedBy, IsSolution}
use Rattle.ts_search.proofs.Closing.{budget_is_enough}
use Rattle.ts_search.proofs.OfProgram.{are_right}
use Rattle.ts_checker.specs.declared.verdict.Verdict.{Verdict}
use Rattle.ts_checker.specs.declared.verdict.Verdict.TheVariants.{Accepted}
use Rattle.ts_checker.specs.Verdicts.{IsVerdict}
use Rattle.ts_checker.proofs.Verdicts.{one_verdict}
use Rattle.ts_run.specs.Headline.{SaysSample}
use Rattle.ts_run.specs.Quantities.{IsWithin, usual_lines}
use Rattle.ts_run.specs.Reply.{Reply, reply_of}
use Rattle.ts_run.specs.Sample.{IsReported, SampleReply, sample_text, six_lines, sum_of, three_lines}
use Rattle.ts_run.specs.SampleModel.{sample_stated}
use Rattle.ts_run.specs.Verified.{verdict_reply}
use Rattle.ts_run.specs.declared.reply.Reply.{Reply as GivenReply}
use Rattle.ts_run.specs.declared.status.Status.TheVariants.{Done, Budget}
use Rattle.ts_run.proofs.CertifiedSizes.{IsSent, best_sent, lines_are_of}
use Rattle.ts_run.proofs.SampleMeets.{sample_meets}
use Rattle.ts_run.proofs.SampleModelLaws.{cells_count, sample_limits, sample_whole}
use Rattle.ts_run.proofs.ValueSizes.{cells_within}
use Rattle.ts_filter.proofs.SoundLaws.{series_length}

module _ (n : ℕ) (asked : IsWithin 1 most_cells n) where
  abbrev m : ModelParts
  m = sample_stated n

  -- a claim that isn't of a best value is one of a spent budget
  no_other : (claim : Claim) (series : List (List ℤ)) (tree : List TreeLine) →
      IsSolvedBy (contest_for m (spans_in m) Minimise) usual_lines claim series tree → ((v : Ext) → claim ≡ Best v → ⊥) →
      IsReported n claim series tree (three_lines n)
  no_other (Best v) series tree h f = absurd (f v refl)
  no_other Infeasible series tree h f = absurd (h.1 _ (sample_meets n asked))
  no_other (BudgetBest v) series tree h f = refl
  no_other BudgetNone series tree h f = refl
  no_other (Full count) series tree h f = absurd h
  no_other (All count) series tree h f = absurd h
  no_other (BudgetList count) series tree h f = absurd h

  module _ (c : Cert) (solved : IsSolution m (spans_in m) Minimise usual_lines c) where
    pub spent_reply : (r : Reply) → ((v : Ext) → c.claim ≡ Best v → ⊥) → r ≡ three_lines n → SampleReply n r
    spent_reply r f is = record {
      asked = asked;
      certificate = c;
      solved = solved;
      reported = subst (IsReported n c.claim c.series c.tree) (sym is) (no_other c.claim c.series c.tree solved.claim f);
    }

    is_sent : IsSent c
    is_sent = best_sent m Minimise usual_lines c (sample_whole n asked) (sample_limits n asked) (omega arith, omega arith) solved

    -- the text of the certificate is short, and is accepted

    pub text_short : length (certificate_text c) < too_many
    text_short = let fits = text_fits c 0 is_sent.within (omega arith) in omega (arith, fits)

    pub text_accepted : (v : Verdict) → IsVerdict m (strict_lines (certificate_text c)) v → v ≡ Accepted
    text_accepted v h =
        let short = text_short in
        let lines = lines_few (certificate_text c) in
        one_verdict m (strict_lines (certificate_text c)) v Accepted (omega (arith, short, lines)) h (c, lines_are_of c is_sent, solved.accepts)

    -- a best value has one series, of values of cells

    module _ (v : Ext) (best : c.claim ≡ Best v) where
      pub record HasBest : Type 0 where
        pub series : List ℤ
        pub is : c.series ≡ series ∷ []
        pub cells : AreCellValues series
        pub few : length series ≤ 512

      pub has_best : HasBest
      has_best =
          let k = subst (λ z. IsSolvedBy (contest_for m (spans_in m) Minimise) usual_lines z c.series c.tree) best solved.claim in
          let inside = k.2.meets.inside in
          let long = series_length k.0 m.cells inside in
          let count = cells_count 1 n in
          let few = asked.1 in
          record {
            series = k.0;
            is = k.1;
            cells = cells_within k.0 m.cells inside (sample_limits n asked).box;
            few = omega (arith, long, count, few);
          }

      pub best_reply : (x : List ℤ) (sum : ℤ) (lines : ℕ) (verdict : Verdict) (last r : Reply) → c.series ≡ x ∷ [] → sum ≡ sum_of x →
          lines ≡ checked_count c.tree → IsVerdict m (strict_lines (certificate_text c)) verdict → last ≡ verdict_reply verdict →
          r ≡ record { text = sample_text n v sum lines ++ last.text; status = last.status } → SampleReply n r
      best_reply x sum lines verdict last r series sum_is lines_is shown last_is is =
          let accepted = last_is ∙ ap verdict_reply (text_accepted verdict shown) in
          let six : r ≡ six_lines n v (sum_of x) (checked_count c.tree) =
          is ∙ (λ i. record { text = sample_text n v (sum_is i) (lines_is i) ++ (accepted i).text; status = (accepted i).status }) in
          record {
            asked = asked;
            certificate = c;
            solved = solved;
            reported = subst (λ z. IsReported n z c.series c.tree r) (sym best) (x, series, six);
          }

-- the certificate of the model that was made, as the code has it

first_view : {V : Type 0} (view : V → List ℤ) (items : List V) (first : V) (x : List ℤ) → map view items ≡ x ∷ [] → first ≡ get_or items 0 first →
    view first ≡ x
first_view view [] first x e is = absurd (cc)
first_view view (v ∷ vs) first x e is = let head : view v ≡ x = cc in ap view is ∙ head

module _ (n k b : ℕ) (made : ModelParts) (c : Cert) (value : k ≡ n) (range : IsWithin 1 most_cells k) (is : made ≡ sample_stated k) (budget : b ≡ usual_lines)
    (solved : IsSolution made (spans_in made) Minimise b c) where
  asked_here : IsWithin 1 most_cells n
  asked_here = subst (IsWithin 1 most_cells) value range

  model_here : made ≡ sample_stated n
  model_here = is ∙ ap sample_stated value

  solved_here : IsSolution (sample_stated n) (spans_in (sample_stated n)) Minimise usual_lines c
  solved_here =
      subst (λ z. IsSolution z (spans_in z) Minimise usual_lines c) model_here (subst (λ (z : ℕ). IsSolution made (spans_in made) Minimise z c) budget solved)

  pub ran_out_given : {E : Type 0} (given : Result GivenReply E) → ((v : Ext) → c.claim ≡ Best v → ⊥) → IfOk given (λ r. reply_of r ≡ three_lines k) →
      IfOk given (λ r. SampleReply n (reply_of r))
  ran_out_given (Ok r) f h = spent_reply n asked_here c solved_here (reply_of r) f (h ∙ ap three_lines value)
  ran_out_given (Err e) f h = tt

  pub text_given : (text : List ℕ) → text ≡ certificate_text c → length text < too_many
  text_given text same = subst (λ (z : List ℕ). length z < too_many) (sym same) (text_short n asked_here c solved_here)

  -- the series of a best value stands first
  module _ {V : Type 0} (view : V → List ℤ) (items : List V) (first : V) (v : Ext) (all : map view items ≡ c.series) (at : first ≡ get_or items 0 first)
      (best : c.claim ≡ Best v) where
    best_here : HasBest n asked_here c solved_here v best
    best_here = has_best n asked_here c solved_here v best

    first_is : view first ≡ best_here.series
    first_is = first_view view items first best_here.series (all ∙ best_here.is) at

    pub first_cells : AreCellValues (view first)
    first_cells = subst AreCellValues (sym first_is) best_here.cells

    pub found_given : (sum : ℤ) (lines : ℕ) (verdict : Verdict) (last r : Reply) (text : List ℕ) (seen : ModelParts) → sum ≡ sum_of (view first) →
        lines ≡ checked_count c.tree → seen ≡ made → text ≡ certificate_text c → IsVerdict seen (strict_lines text) verdict → last ≡ verdict_reply verdict →
        r ≡ record { text = sample_text k v sum lines ++ last.text; status = last.status } → SampleReply n r
    found_given sum lines verdict last r text seen sum_is lines_is seen_is text_is shown last_is told =
        let here = subst (λ z. IsVerdict z (strict_lines (certificate_text c)) verdict) (seen_is ∙ model_here)
        (subst (λ (z : List ℕ). IsVerdict seen (strict_lines z) verdict) text_is shown) in
        best_reply n asked_here c solved_here v best (view first) sum lines verdict last r (best_here.is ∙ ap (λ (z : List ℤ). z ∷ []) (sym first_is)) sum_is
        lines_is here last_is (told ∙ ap (λ (z : ℕ). let r : Reply = record { text = sample_text z v sum lines ++ last.text; status = last.status } in r) value)

-- what is said of the model

pub spent_claim : (n : ℕ) (claim : Claim) (series : List (List ℤ)) (tree : List TreeLine) (r : Reply) → IsReported n claim series tree r →
    r.status ≡ Budget → IsBudget claim
spent_claim n (Best v) series tree r h e = absurd (let done : Done ≡ Budget = sym (ap (λ (x : Reply). x.status) h.2) ∙ e in cc)
spent_claim n Infeasible series tree r h e = absurd h
spent_claim n (BudgetBest v) series tree r h e = tt
spent_claim n BudgetNone series tree r h e = tt
spent_claim n (Full count) series tree r h e = absurd h
spent_claim n (All count) series tree r h e = absurd h
spent_claim n (BudgetList count) series tree r h e = absurd h

pub says_sample : (n : ℕ) (r : Reply) → SampleReply n r → SaysSample n r
says_sample n r s =
    let m = sample_stated n in
    let c = s.certificate in
    record {
      is = s;
      enough = λ many e. budget_is_enough m (spans_in m) Minimise usual_lines c (are_right m (sample_whole n s.asked) (sample_limits n s.asked).box) many
          s.solved (spent_claim n c.claim c.series c.tree r s.reported e);
    }
