use Rattle.std.proofs.Common.{rules}
use Rattle.ts_model.specs.Views.{model_parts}
use Rattle.ts_model.proofs.MeetsLaw.{met_by}
use Rattle.ts_compile.proofs.judging.judge.Goals as goal

pub returns-clause-meets : goal.returns-clause-meets
returns-clause-meets c =
    met_by (model_parts c.args.model.now) c.args.series.now c.in_ok-inside.inside.items c.in_ok-holding.holding.items c.requires.cells (search rules)
    (search rules)
