use Rattle.std.proofs.Common.{◌∙◌}
use Rattle.ts_frontier.proofs.Trailed.{length-boxes}
use Rattle.ts_frontier.proofs.frontier.Frontier.waiting.Goals as goal

pub returns : goal.returns
returns c =
    length-boxes c.self.inside.boxed c.self.inside.ready c.self.inside.uppers.items _ c.len.result c.from.result c.self.view_is
    (c.len.ensures ∙ c.self.inside.uppers.ok.0) c.from.ensures
