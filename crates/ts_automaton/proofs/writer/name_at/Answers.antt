use Rattle.ts_automaton.proofs.WriteLaws.{name_there, no_name_there}
use Rattle.ts_automaton.proofs.writer.name_at.Goals as goal

pub returns-then-k-states : goal.returns-then-k-states
returns-then-k-states c = name_there c.args.states.now c.args.k _ c.if-k-states.true

pub returns-else-k-states : goal.returns-else-k-states
returns-else-k-states c = no_name_there c.args.states.now c.args.k c.if-k-states.false
