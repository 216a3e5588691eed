use Rattle.ts_automaton.specs.SpanRun.{hull_standing}
use Rattle.ts_automaton.proofs.StepLaws.{hull_finish_takes}
use Rattle.ts_automaton.proofs.automaton.Automaton.finish_span.Goals as goal

pub finished-requires : goal.finished-requires
finished-requires c =
    λ t. hull_finish_takes c.args.self.now c.finish_expr-finish.ensures.rules (hull_standing c.args.at) c.requires t _ c.finish_expr-finish.ensures.value
