use Rattle.std.proofs.Common.{refl, arith}
use Rattle.ts_row.proofs.PlanLaws.{planned_more}
use Rattle.ts_row.proofs.plan.Plan.of.Goals as goal

pub loop-q-preserved : goal.loop-q-preserved
loop-q-preserved c =
    let few = c.states-q-end.ensures.few in
    let test = c.loop-q-test.true in
    planned_more c.args.a.now c.loop-q.q c.loop-q.states c.of.result _ (omega (arith, few, test)) c.loop-q.invariant c.of.ensures refl
