use Rattle.std.proofs.Common.{reverse}
use Rattle.ts_frontier.proofs.Trailed.{closed_fits, closed_boxes}
use Rattle.ts_frontier.proofs.frontier.Frontier.close.Goals as goal

pub invariant_of-self : goal.invariant_of-self
invariant_of-self c = closed_fits c.self.inside.boxed c.self.inside.ready (reverse c.self.inside.uppers.items) _ c.self.view_is c.requires c.self.invariant

pub returns : goal.returns
returns c = closed_boxes c.self.inside.boxed c.self.inside.ready (reverse c.self.inside.uppers.items) _ c.self.view_is c.requires
