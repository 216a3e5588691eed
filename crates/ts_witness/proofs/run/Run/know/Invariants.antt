use Rattle.std.proofs.Common.{◌≡◌, ◌-◌}
use Rattle.ts_witness.specs.Runs.{Runs, cells_in}
use Rattle.ts_witness.proofs.run.Run.know.Given as goal

abbrev pub invariant-loop-self : goal.invariant-loop-self
invariant-loop-self l = record {
  runs : Runs l.a l.self;
  cells : cells_in l.self ≡ cells_in l.fn.self;
}

abbrev pub decreases-loop-self : goal.decreases-loop-self
decreases-loop-self l = l.count - l.self.known
