use Rattle.std.proofs.Common.{refl}
use Rattle.ts_model.specs.Views.{model_parts}
use Rattle.ts_checker.proofs.Fed.{box_seen}
use Rattle.ts_checker.proofs.Waits.{waits, waiting_seen}
use Rattle.ts_checker.proofs.checker.Checker.waiting.Goals as goal

pub returns-clause-by_lines : goal.returns-clause-by_lines
returns-clause-by_lines c = λ texts h.
    waits texts c.args.self.now (box_seen (model_parts c.self.inside.model) _ c.args.self.now refl c.self.view_is c.self.invariant.1) h c.waiting.result
    (waiting_seen _ c.args.self.now c.self.inside.standing.frontier.boxes c.waiting.result refl c.self.view_is c.waiting.ensures)
