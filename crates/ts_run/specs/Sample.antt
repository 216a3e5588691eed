-- What `sample N` writes: of its model's first best series the value, the sum and the lines of its tree; or that the
-- lines ran out.
use Rattle.std.specs.Prelude.{ℕ, ◌≡◌, ◌≤◌, ℤ, pos, ◌+ℤ◌, List, [], ◌∷◌, ◌++◌, codes}
use Rattle.std.specs.Fmt.{decimal, signed_decimal}
use Rattle.ts_base.specs.declared.ext.Ext.{Ext}
use Rattle.ts_base.specs.declared.goal.Goal.TheVariants.{Minimise}
use Rattle.ts_base.specs.Limits.{most_cells}
use Rattle.ts_base.specs.Text.{ext_text, line}
use Rattle.ts_certificate.specs.declared.certificate.Claim.{Claim}
use Rattle.ts_certificate.specs.declared.certificate.Claim.TheVariants.{Best, Infeasible, BudgetBest, BudgetNone}
use Rattle.ts_certificate.specs.declared.certificate.Claim.TheVariants.{Full, All, BudgetList}
use Rattle.ts_certificate.specs.declared.certificate.TreeLine.{TreeLine}
use Rattle.ts_certificate.specs.Certificate.{Cert, checked_count}
use Rattle.ts_spans.specs.Machines.{spans_in}
use Rattle.ts_search.specs.Solved.{IsSolution}
use Rattle.ts_run.specs.Quantities.{IsWithin, usual_lines}
use Rattle.ts_run.specs.Reply.{Reply}
use Rattle.ts_run.specs.SampleModel.{sample_stated}
use Rattle.ts_run.specs.declared.status.Status.TheVariants.{Done, Budget}

-- the sum of a series
abbrev pub sum_of : List ℤ → ℤ
sum_of [] = pos 0
sum_of (x ∷ xs) = x +ℤ sum_of xs

abbrev pub head_lines : ℕ → List ℕ
head_lines n = line (codes "sample " ++ decimal n) ++ line (codes "cells " ++ decimal n)

-- the six lines: the value and the sum of the best series, the lines that were checked, and the verdict on them
abbrev pub sample_text : ℕ → Ext → ℤ → ℕ → List ℕ
sample_text n value sum lines =
    head_lines n ++ line (codes "best " ++ ext_text value) ++ line (codes "sum " ++ signed_decimal sum)
    ++ line (codes "lines " ++ decimal lines)

abbrev pub six_lines : ℕ → Ext → ℤ → ℕ → Reply
six_lines n value sum lines = record { text = sample_text n value sum lines ++ codes "accepted\n"; status = Done }

-- the three lines where the lines of the search ran out
abbrev pub three_lines : ℕ → Reply
three_lines n = record { text = head_lines n ++ codes "budget\n"; status = Budget }

-- what is reported of a claim: the model has a series that meets, so there is no other
abbrev pub IsReported : ℕ → Claim → List (List ℤ) → List TreeLine → Reply → Type 0
IsReported n (Best v) series tree r =
    (x : List ℤ) × (series ≡ x ∷ []) × (r ≡ six_lines n v (sum_of x) (checked_count tree))
IsReported n Infeasible series tree r = ⊥
IsReported n (BudgetBest v) series tree r = r ≡ three_lines n
IsReported n BudgetNone series tree r = r ≡ three_lines n
IsReported n (Full count) series tree r = ⊥
IsReported n (All count) series tree r = ⊥
IsReported n (BudgetList count) series tree r = ⊥

-- what `sample N` replies, whatever its input
pub record SampleReply (n : ℕ) (r : Reply) : Type 0 where
  pub asked : IsWithin 1 most_cells n
  pub certificate : Cert
  pub solved : IsSolution (sample_stated n) (spans_in (sample_stated n)) Minimise usual_lines certificate
  pub reported : IsReported n certificate.claim certificate.series certificate.tree r

-- `sample N` has one reply: the tree leaves no line to choose
abbrev pub OneSampleReply : Type 0
OneSampleReply = (n : ℕ) (r s : Reply) → SampleReply n r → SampleReply n s → r ≡ s

-- up to 6 cells the lines suffice
abbrev pub FewCellsAreDone : Type 0
FewCellsAreDone = (n : ℕ) (r : Reply) → n ≤ 6 → SampleReply n r → r.status ≡ Done
