use Rattle.ts_row.proofs.PlanLaws.{ArePlanned}
use Rattle.ts_row.proofs.plan.Plan.of.Given as goal

abbrev pub invariant-loop-q : goal.invariant-loop-q
invariant-loop-q l = ArePlanned l.a l.q l.states
