use Rattle.ts_automaton.proofs.Listed.{targets_within}
use Rattle.ts_automaton.proofs.parts.Parts.has_targets.Goals as goal

pub returns : goal.returns
returns c = targets_within _ _ _ c.all_lead_within.ensures c.deref.ensures.value
