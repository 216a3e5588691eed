use Rattle.std.proofs.Common.{arith}
use Rattle.ts_witness.proofs.Runs.{changed_run}
use Rattle.ts_witness.proofs.run.Run.set.Goals as goal

pub returns-then-i-self-clause-runs : goal.returns-then-i-self-clause-runs
returns-then-i-self-clause-runs c =
    let r = c.args.self.now in
    λ b h. changed_run b r.cells.items r.states.items r.known c.args.i c.args.i _ h (omega (arith, c.if-i-self.true)) (omega arith)
