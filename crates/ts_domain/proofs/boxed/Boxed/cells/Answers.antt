use Rattle.std.proofs.Common.{◌∙◌}
use Rattle.ts_domain.proofs.Trails.{count_fits, box_of}
use Rattle.ts_domain.proofs.boxed.Boxed.cells.Goals as goal

pub overflow_cast-result : goal.overflow_cast-result
overflow_cast-result c = count_fits c.self.inside.trail.items c.self.inside.cells.items _ c.self.invariant (c.len.ensures ∙ c.self.inside.cells.ok.0)

pub returns-clause-domains : goal.returns-clause-domains
returns-clause-domains c = box_of c.self.inside.trail.items c.self.inside.cells.items _ c.self.view_is c.self.invariant
