-- How the code goes: one line a turn, and the certificate at the end. No public call promises it: what is promised
-- stands in `Solved` and `Listed`.
use Rattle.std.specs.Prelude.{ℕ, zero, suc, ℤ, Bool, true, false, cond, nat_lt, List, [], ◌∷◌, ◌++◌, length}
use Rattle.std.specs.Prelude.{Option, Some, None}
use Rattle.ts_certificate.specs.declared.certificate.Aim.TheVariants.{Best as BestOf, List as ListOf}
use Rattle.ts_certificate.specs.declared.certificate.Claim.{Claim}
use Rattle.ts_certificate.specs.declared.certificate.Claim.TheVariants.{Best, Infeasible, BudgetBest, BudgetNone}
use Rattle.ts_certificate.specs.declared.certificate.Claim.TheVariants.{Full, All, BudgetList}
use Rattle.ts_certificate.specs.declared.certificate.TreeLine.{TreeLine}
use Rattle.ts_certificate.specs.declared.certificate.TreeLine.TheVariants.{Split, Remove, No, Worse, Yes, Unsearched}
use Rattle.ts_certificate.specs.Certificate.{Cert}
use Rattle.ts_filter.specs.Boxes.{Box}
use Rattle.ts_filter.specs.Rules.{Head}
use Rattle.ts_filter.specs.Steps.{made_by}
use Rattle.ts_search.specs.Dive.{Find, value_of, find}
use Rattle.ts_frontier.specs.Forms.{Form, Alone, Wide, form}
use Rattle.ts_search.specs.LineOf.{Search, Contest, TheBest, TheFirst, bar_of, counts_for, line_of}

-- Of the best series.

-- the lines so far, the boxes that wait, the next one first, and the series that was found
pub record State : Type 0 where
  pub lines : List TreeLine
  pub pending : List Box
  pub found : Option Find

abbrev pub start : Contest → State
start c = record { lines = []; pending = c.search.model.cells ∷ []; found = None }

-- a box of one series makes it the found one where it counts for the bar
abbrev pub found_after : Contest → Option Find → Form → TreeLine → Option Find
found_after c found form (Split k t) = found
found_after c found form (Remove k v j) = found
found_after c found form (No j p) = found
found_after c found (Alone x) (Worse p) =
    cond (counts_for c (bar_of found c.warm) (value_of c.search.model x)) (Some (find c.search.model x)) found
found_after c found (Wide k t) (Worse p) = found
found_after c found form Yes = found
found_after c found form Unsearched = found

-- the state after a line on the box b, with the boxes that wait behind it
abbrev pub after : Contest → State → Box → List Box → TreeLine → State
after c s b behind l = record {
  lines = s.lines ++ l ∷ [];
  pending = made_by l b ++ behind;
  found = found_after c s.found (form b) l;
}

abbrev pub turn_on : Contest → State → List Box → State
turn_on c s [] = s
turn_on c s (b ∷ behind) = after c s b behind (line_of (TheBest c s.found) b)

abbrev pub turn : Contest → State → State
turn c s = turn_on c s s.pending

abbrev pub turns : Contest → ℕ → State → State
turns c zero s = s
turns c (suc n) s = turns c n (turn c s)

-- each box that still waits is `open`
abbrev pub left_open : List Box → List TreeLine
left_open [] = []
left_open (b ∷ waiting) = Unsearched ∷ left_open waiting

abbrev pub found_or_warm : Option Find → Option Find → Option Find
found_or_warm (Some f) warm = Some f
found_or_warm None warm = warm

abbrev pub series_of : Option Find → List (List ℤ)
series_of None = []
series_of (Some f) = f.series ∷ []

abbrev pub done_claim : Option Find → Claim
done_claim None = Infeasible
done_claim (Some f) = Best f.value

abbrev pub budget_claim : Option Find → Claim
budget_claim None = BudgetNone
budget_claim (Some f) = BudgetBest f.value

abbrev pub solve_head : Contest → Option Find → List Box → Head
solve_head c found [] = record { aim = BestOf c.goal; claim = done_claim found; series = series_of found }
solve_head c found (b ∷ waiting) = record {
  aim = BestOf c.goal;
  claim = budget_claim (found_or_warm found c.warm);
  series = series_of (found_or_warm found c.warm);
}

abbrev pub under_head : Head → List TreeLine → Cert
under_head h ls = record { aim = h.aim; claim = h.claim; series = h.series; tree = ls }

abbrev pub solve_certificate : Contest → State → Cert
solve_certificate c s = under_head (solve_head c s.found s.pending) (s.lines ++ left_open s.pending)

-- Of a listing.

pub record ListState : Type 0 where
  pub lines : List TreeLine
  pub pending : List Box
  pub listed : List (List ℤ)

abbrev pub list_start : Search → ListState
list_start c = record { lines = []; pending = c.model.cells ∷ []; listed = [] }

abbrev pub listed_after : List (List ℤ) → Form → TreeLine → List (List ℤ)
listed_after listed form (Split k t) = listed
listed_after listed form (Remove k v j) = listed
listed_after listed form (No j p) = listed
listed_after listed form (Worse p) = listed
listed_after listed (Alone x) Yes = listed ++ x ∷ []
listed_after listed (Wide k t) Yes = listed
listed_after listed form Unsearched = listed

abbrev pub list_after : ListState → Box → List Box → TreeLine → ListState
list_after s b behind l = record {
  lines = s.lines ++ l ∷ [];
  pending = made_by l b ++ behind;
  listed = listed_after s.listed (form b) l;
}

abbrev pub list_turn_on : Search → ListState → List Box → ListState
list_turn_on c s [] = s
list_turn_on c s (b ∷ behind) = list_after s b behind (line_of (TheFirst c) b)

-- one turn of a listing; none as soon as `count` series are listed
abbrev pub list_turn : Search → ℕ → ListState → ListState
list_turn c count s = cond (nat_lt (length s.listed) count) (list_turn_on c s s.pending) s

abbrev pub list_turns : Search → ℕ → ℕ → ListState → ListState
list_turns c count zero s = s
list_turns c count (suc n) s = list_turns c count n (list_turn c count s)

abbrev pub list_claim : Bool → ℕ → List Box → Claim
list_claim false listed waiting = Full listed
list_claim true listed [] = All listed
list_claim true listed (b ∷ waiting) = BudgetList listed

abbrev pub list_head : ℕ → ListState → Head
list_head count s = record {
  aim = ListOf count;
  claim = list_claim (nat_lt (length s.listed) count) (length s.listed) s.pending;
  series = s.listed;
}

abbrev pub list_certificate : ℕ → ListState → Cert
list_certificate count s = under_head (list_head count s) (s.lines ++ left_open s.pending)
