use Rattle.std.proofs.Common.{reverse}
use Rattle.ts_frontier.proofs.Trailed.{present_is}
use Rattle.ts_frontier.proofs.frontier.Frontier.present.Goals as goal

pub returns : goal.returns
returns c = present_is c.self.inside.boxed c.self.inside.ready (reverse c.self.inside.uppers.items) _ c.self.view_is c.requires
