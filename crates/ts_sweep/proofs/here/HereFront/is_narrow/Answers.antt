use Rattle.std.proofs.Common.{◌∙◌}
use Rattle.ts_automaton.specs.Formula.{formula}
use Rattle.ts_sweep.specs.HereLaws.{narrow_here}
use Rattle.ts_sweep.proofs.here.HereFront.is_narrow.Goals as goal

pub returns : goal.returns
returns c = c.is_narrow.ensures ∙ narrow_here (formula c.args.self.expr.now)
