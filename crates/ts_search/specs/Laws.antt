-- What is promised of the search.
use Rattle.std.specs.Prelude.{◌≡◌, ◌⊎◌, ℕ, ◌+◌, ◌*◌, ◌<◌, ◌≤◌, ℤ, true, List, Contains, length}
use Rattle.std.specs.Prelude.{IsSome, Some, None}
use Rattle.ts_base.specs.declared.goal.Goal.{Goal}
use Rattle.ts_certificate.specs.declared.certificate.Claim.{Claim}
use Rattle.ts_certificate.specs.declared.certificate.Claim.TheVariants.{Best, Infeasible, BudgetBest, BudgetNone}
use Rattle.ts_certificate.specs.declared.certificate.Claim.TheVariants.{Full, All, BudgetList}
use Rattle.ts_certificate.specs.declared.certificate.TreeLine.{TreeLine}
use Rattle.ts_certificate.specs.declared.certificate.TreeLine.TheVariants.{No}
use Rattle.ts_certificate.specs.Certificate.{Cert, open_count}
use Rattle.ts_domain.specs.BoxSeries.{IsBox, series_count}
use Rattle.ts_model.specs.FirstBest.{objective_of}
use Rattle.ts_model.specs.Meets.{Meets}
use Rattle.ts_model.specs.ModelParts.{ModelParts, total_of}
use Rattle.ts_filter.specs.Boxes.{Box, HasCell, values_at, IsPart}
use Rattle.ts_filter.specs.Drops.{IsFirstDrop}
use Rattle.ts_filter.specs.KeptValue.{IsPreferred}
use Rattle.ts_filter.specs.RefutedWorseDrop.{Spans, IsRefuted}
use Rattle.ts_search.specs.RightSpans.{AreRight}
use Rattle.ts_search.specs.Dive.{Find, promise, kept_value, keep_from, dive_box, dive_end, dive}
use Rattle.ts_search.specs.Drops.{next_drop, after_drops}
use Rattle.ts_frontier.specs.Forms.{Alone, form}
use Rattle.ts_search.specs.LineOf.{Search, search_for, contest_for, last, requirements, first_no}
use Rattle.ts_search.specs.Listed.{IsListAnswer}
use Rattle.ts_search.specs.Solved.{IsSolution}
use Rattle.ts_search.specs.Turns.{start, turns, solve_certificate, list_start, list_turns, list_certificate}

-- the certificate of n turns is solved
abbrev pub SearchSolves : Type 0
SearchSolves =
    (m : ModelParts) (s : Spans) (goal : Goal) (n : ℕ) → AreRight m s → IsSome m.objective →
    IsSolution m s goal n (solve_certificate (contest_for m s goal)
    (turns (contest_for m s goal) n (start (contest_for m s goal))))

-- the certificate of a listing of n turns is listed
abbrev pub SearchLists : Type 0
SearchLists =
    (m : ModelParts) (s : Spans) (count n : ℕ) → AreRight m s →
    IsListAnswer m s count n (list_certificate count
    (list_turns (search_for m s) count n (list_start (search_for m s))))

-- there is one solved certificate, and one listed certificate
abbrev pub OneSolved : Type 0
OneSolved =
    (m : ModelParts) (s : Spans) (goal : Goal) (n : ℕ) (c d : Cert) → AreRight m s → IsSome m.objective →
    IsSolution m s goal n c → IsSolution m s goal n d → c ≡ d

abbrev pub OneListed : Type 0
OneListed =
    (m : ModelParts) (s : Spans) (count n : ℕ) (c d : Cert) → AreRight m s →
    IsListAnswer m s count n c → IsListAnswer m s count n d → c ≡ d

abbrev pub IsBudget : Claim → Type 0
IsBudget (Best v) = ⊥
IsBudget Infeasible = ⊥
IsBudget (BudgetBest v) = Unit {0}
IsBudget BudgetNone = Unit {0}
IsBudget (Full count) = ⊥
IsBudget (All count) = ⊥
IsBudget (BudgetList count) = Unit {0}

-- of a model with S series, a budget of 2·S - 1 lines is enough
abbrev pub BudgetIsEnough : Type 0
BudgetIsEnough =
    (m : ModelParts) (s : Spans) (goal : Goal) (n : ℕ) (c : Cert) → AreRight m s → 2 * series_count m.cells ≤ n + 1 →
    IsSolution m s goal n c → IsBudget c.claim → ⊥

abbrev pub ListBudgetIsEnough : Type 0
ListBudgetIsEnough =
    (m : ModelParts) (s : Spans) (count n : ℕ) (c : Cert) → AreRight m s → 2 * series_count m.cells ≤ n + 1 →
    IsListAnswer m s count n c → IsBudget c.claim → ⊥

-- few lines are `open`: no more than the values of the domains together
abbrev pub SolvedOpensFew : Type 0
SolvedOpensFew =
    (m : ModelParts) (s : Spans) (goal : Goal) (n : ℕ) (c : Cert) → AreRight m s → IsSome m.objective →
    IsSolution m s goal n c → open_count c.tree ≤ total_of m.cells

abbrev pub ListedOpensFew : Type 0
ListedOpensFew =
    (m : ModelParts) (s : Spans) (count n : ℕ) (c : Cert) → AreRight m s → IsListAnswer m s count n c →
    open_count c.tree ≤ total_of m.cells

-- Drops and the dive.

-- the next drop is the first of those that may be made, and there is one where one may be made
abbrev pub NextDropFits : Type 0
NextDropFits = (m : ModelParts) (s : Spans) (b : Box) → IsBox b → IsFirstDrop m.requirements s b (next_drop m s b)

-- after the drops none is possible
abbrev pub DropsEnd : Type 0
DropsEnd = (m : ModelParts) (s : Spans) (b : Box) → IsPart b m.cells → next_drop m s (after_drops m s b) ≡ None

-- of the values of cell k none has a better promise than v, and none that is less has one as good
pub record IsMostPromising (s : Spans) (goal : Goal) (term k : ℕ) (b : Box) (v : ℤ) : Type 0 where
  pub there : Contains (values_at k b) v
  pub over : (u : ℤ) → Contains (values_at k b) u → IsPreferred goal (promise s goal term k b) v u

-- the value that a cell keeps is most promising, where the objective is reversible
abbrev pub KeptFits : Type 0
KeptFits =
    (m : ModelParts) (s : Spans) (goal : Goal) (term k : ℕ) (b : Box) → IsBox b → HasCell k b →
    m.objective ≡ Some term → s.reversible term ≡ true → IsMostPromising s goal term k b (kept_value m s goal k b)

-- the dive ends at one series
abbrev pub DiveEnds : Type 0
DiveEnds =
    (m : ModelParts) (s : Spans) (goal : Goal) → AreRight m s → (x : List ℤ) × (form (dive_box m s goal) ≡ Alone x)

-- where the dive has a series, that one meets and has its value
abbrev pub DiveMeets : Type 0
DiveMeets =
    (m : ModelParts) (s : Spans) (goal : Goal) (f : Find) → AreRight m s → IsSome m.objective → dive m s goal ≡ Some f →
    Meets m f.series × (objective_of m f.series ≡ Some f.value)

-- where a requirement is refuted on a box of the dive, cells k and n - 1 more being open, the dive has no series
abbrev pub DiveEndsEarly : Type 0
DiveEndsEarly =
    (m : ModelParts) (s : Spans) (goal : Goal) (n k : ℕ) (b : Box) (j p : ℕ) → AreRight m s → IsPart b m.cells → 1 ≤ k →
    k + n ≤ length m.cells + 1 → IsRefuted m.requirements s j p b → dive_end m (form (keep_from m s goal n k b)) ≡ None

-- `no J P` below the last cell: J is the least requirement that is refuted at such a cell, and P the least such cell
pub record IsFirstNo (c : Search) (b : Box) (l : TreeLine) : Type 0 where
  pub requirement : ℕ
  pub cell : ℕ
  pub line : l ≡ No requirement cell
  pub refuted : IsRefuted c.model.requirements c.spans requirement cell b
  pub below : cell < last c
  pub first : (j p : ℕ) → IsRefuted c.model.requirements c.spans j p b → p < last c →
      (requirement < j) ⊎ ((requirement ≡ j) × (cell ≤ p))

abbrev pub FirstNoFits : Type 0
FirstNoFits = (c : Search) (b : Box) (l : TreeLine) → first_no c b (requirements c) 1 ≡ Some l → IsFirstNo c b l
