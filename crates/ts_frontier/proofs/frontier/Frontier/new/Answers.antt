use Rattle.ts_frontier.proofs.Trailed.{begun_fits, begun_waiting}
use Rattle.ts_frontier.proofs.frontier.Frontier.new.Goals as goal

pub invariant_of-result : goal.invariant_of-result
invariant_of-result c = begun_fits c.args.boxed c.new.result.items c.new.ensures.items

pub returns : goal.returns
returns c = begun_waiting c.args.boxed c.new.result.items c.new.ensures.items
