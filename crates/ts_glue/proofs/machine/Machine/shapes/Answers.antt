use Rattle.ts_glue.proofs.Calls.{shapes_of_pair}
use Rattle.ts_glue.proofs.machine.Machine.shapes.Goals as goal

pub returns : goal.returns
returns c = shapes_of_pair c.args.self.now c.in-Some.half c.in-Some.is
