-- The reply of `sample` is one; and the model with N cells has 6^N series, so that up to 6 cells the lines suffice.
use Rattle.std.proofs.Common.{◌≡◌, ℕ, zero, suc, ◌+◌, ◌*◌, ◌≤◌, ℤ, pos, List, [], ◌∷◌, map, refl, sym, ◌∙◌, ap, subst, arith}
use Rattle.std.proofs.lemmas.List.{length-map}
use Rattle.std.proofs.lemmas.List.Concat.{length-flat_map}
use Rattle.ts_base.specs.declared.goal.Goal.TheVariants.{Minimise}
use Rattle.ts_certificate.specs.declared.certificate.Claim.{Claim}
use Rattle.ts_certificate.specs.declared.certificate.Claim.TheVariants.{Best, Infeasible, BudgetBest, BudgetNone, Full, All, BudgetList}
use Rattle.ts_certificate.specs.declared.certificate.TreeLine.{TreeLine}
use Rattle.ts_certificate.specs.Certificate.{Cert, checked_count}
use Rattle.ts_domain.specs.BoxSeries.{all_series, series_count}
use Rattle.ts_spans.specs.Machines.{spans_in}
use Rattle.ts_search.specs.Laws.{IsBudget}
use Rattle.ts_search.proofs.Closing.{budget_is_enough, one_solved}
use Rattle.ts_search.proofs.OfProgram.{are_right}
use Rattle.ts_run.specs.Quantities.{usual_lines}
use Rattle.ts_run.specs.Reply.{Reply}
use Rattle.ts_run.specs.Sample.{FewCellsAreDone, IsReported, OneSampleReply, six_lines, sum_of}
use Rattle.ts_run.specs.SampleModel.{cells_from, least_of, sample_stated, six_from}
use Rattle.ts_run.specs.declared.status.Status.TheVariants.{Done}
use Rattle.ts_run.proofs.SampleModelLaws.{sample_limits, sample_whole}

-- one reply

one_reported : (n : ℕ) (claim : Claim) (series : List (List ℤ)) (tree : List TreeLine) (r s : Reply) → IsReported n claim series tree r →
    IsReported n claim series tree s → r ≡ s
one_reported n (Best v) series tree r s h k =
    let same : h.0 ≡ k.0 = let e = sym h.1 ∙ k.1 in cc in
    h.2 ∙ ap (λ (x : List ℤ). six_lines n v (sum_of x) (checked_count tree)) same ∙ sym k.2
one_reported n Infeasible series tree r s h k = absurd h
one_reported n (BudgetBest v) series tree r s h k = h ∙ sym k
one_reported n BudgetNone series tree r s h k = h ∙ sym k
one_reported n (Full count) series tree r s h k = absurd h
one_reported n (All count) series tree r s h k = absurd h
one_reported n (BudgetList count) series tree r s h k = absurd h

pub one_sample_reply : OneSampleReply
one_sample_reply n r s h k =
    let m = sample_stated n in
    let c = h.certificate in
    let same : k.certificate ≡ c =
    one_solved m (spans_in m) Minimise usual_lines k.certificate c
    (are_right m (sample_whole n h.asked) (sample_limits n h.asked).box) refl k.solved h.solved in
    one_reported n c.claim c.series c.tree r s h.reported (subst (λ (z : Cert). IsReported n z.claim z.series z.tree s) same k.reported)

-- how many series there are

six_times : (l : ℕ) (rest : List (List ℤ)) → series_count (six_from l ∷ rest) ≡ 6 * series_count rest
unfolding all_series
six_times l rest =
    let each = λ (v : ℤ). length-map (all_series rest) (λ (vs : List ℤ). v ∷ vs) in
    let a = each (pos l) in
    let b = each (pos (l + 1)) in
    let c = each (pos (l + 2)) in
    let d = each (pos (l + 3)) in
    let e = each (pos (l + 4)) in
    let f = each (pos (l + 5)) in
    length-flat_map (λ (v : ℤ). map (λ (vs : List ℤ). v ∷ vs) (all_series rest)) (six_from l) ∙ omega (arith, a, b, c, d, e, f)

none_counts : series_count [] ≡ 1
unfolding all_series
none_counts = refl

abbrev six_power : ℕ → ℕ
six_power zero = 1
six_power (suc n) = 6 * six_power n

series_many : (k n : ℕ) → series_count (cells_from k n) ≡ six_power n
series_many k zero = none_counts
series_many k (suc n) = six_times (least_of k) (cells_from (k + 1) n) ∙ ap (λ (z : ℕ). 6 * z) (series_many (k + 1) n)

few_series : (n : ℕ) → n ≤ 6 → 2 * six_power n ≤ usual_lines + 1
few_series zero h = omega arith
few_series (suc zero) h = omega arith
few_series (suc (suc zero)) h = omega arith
few_series (suc (suc (suc zero))) h = omega arith
few_series (suc (suc (suc (suc zero)))) h = omega arith
few_series (suc (suc (suc (suc (suc zero))))) h = omega arith
few_series (suc (suc (suc (suc (suc (suc zero)))))) h = omega arith
few_series (suc (suc (suc (suc (suc (suc (suc n))))))) h = absurd (omega (arith, h))

done_claim : (n : ℕ) (claim : Claim) (series : List (List ℤ)) (tree : List TreeLine) (r : Reply) → (IsBudget claim → ⊥) → IsReported n claim series tree r →
    r.status ≡ Done
done_claim n (Best v) series tree r f h = ap (λ (x : Reply). x.status) h.2
done_claim n Infeasible series tree r f h = absurd h
done_claim n (BudgetBest v) series tree r f h = absurd (f tt)
done_claim n BudgetNone series tree r f h = absurd (f tt)
done_claim n (Full count) series tree r f h = absurd h
done_claim n (All count) series tree r f h = absurd h
done_claim n (BudgetList count) series tree r f h = absurd h

pub few_cells_are_done : FewCellsAreDone
few_cells_are_done n r few h =
    let m = sample_stated n in
    let c = h.certificate in
    let many = subst (λ (z : ℕ). 2 * z ≤ usual_lines + 1) (sym (series_many 1 n)) (few_series n few) in
    done_claim n c.claim c.series c.tree r
    (budget_is_enough m (spans_in m) Minimise usual_lines c (are_right m (sample_whole n h.asked) (sample_limits n h.asked).box) many h.solved) h.reported
