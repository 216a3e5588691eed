-- A plan is made state by state.
use Rattle.std.proofs.Common.{◌≡◌, ℕ, ◌+◌, ◌<◌, Bool, List, length, get_or, set, ap, subst, ◌∙◌, arith}
use Rattle.std.proofs.lemmas.List.{length-set}
use Rattle.ts_automaton.specs.Body.{Body, Move}
use Rattle.ts_row.specs.declared.plan.MovePlan.{MovePlan}
use Rattle.ts_row.specs.declared.plan.StatePlan.{StatePlan}
use Rattle.ts_row.specs.Plans.{IsMovePlan, IsStatePlan, unplanned}
use Rattle.ts_row.proofs.Places.{at_each}

-- the plan of one move is that of another that is the same
pub same_plan : (wide : Bool) (p : MovePlan) (equal : Bool) (m n : Move) → m ≡ n → IsMovePlan wide p equal m → IsMovePlan wide p equal n
same_plan wide p equal m n same plan = subst (IsMovePlan wide p equal) same plan

-- the plans of the first q states
abbrev pub ArePlanned : Body → ℕ → List StatePlan → Type 0
ArePlanned b q states = (length states ≡ 8) × ((p : ℕ) → p < q → IsStatePlan b p (get_or states p unplanned))

pub planned_more : (b : Body) (q : ℕ) (old : List StatePlan) (plan : StatePlan) (new : List StatePlan) → q < 8 → ArePlanned b q old →
    IsStatePlan b q plan → new ≡ set old q plan → ArePlanned b (q + 1) new
planned_more b q old plan new few before is set_is = (
  ap length set_is ∙ length-set old q plan ∙ before.0,
  λ p lt. at_each (λ p z. IsStatePlan b p z) old q plan unplanned new (let long = before.0 in omega (arith, few, long)) set_is is p
      (λ apart. before.1 p (omega (arith, lt, apart))),
)
