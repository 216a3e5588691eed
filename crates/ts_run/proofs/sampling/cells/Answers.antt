use Rattle.ts_run.proofs.SampleModelLaws.{cell_pushed}
use Rattle.ts_run.proofs.sampling.cells.Goals as goal

pub loop-k-preserved : goal.loop-k-preserved
loop-k-preserved c =
    cell_pushed c.loop-k.k c.loop-k.cells.items c.push.new.self.items c.in_ok-six_values.field-0 c.loop-k.invariant c.in_ok-push.ensures.items
    c.in_ok-six_values.ensures
