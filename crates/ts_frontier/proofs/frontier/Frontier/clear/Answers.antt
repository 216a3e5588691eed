use Rattle.ts_frontier.proofs.Trailed.{cleared_fits, cleared_waiting}
use Rattle.ts_frontier.proofs.frontier.Frontier.clear.Goals as goal

pub invariant_of-self : goal.invariant_of-self
invariant_of-self c = cleared_fits c.self.inside.boxed c.clear.new.self.items c.clear.ensures.items

pub returns : goal.returns
returns c = cleared_waiting c.self.inside.boxed c.clear.new.self.items c.clear.ensures.items
