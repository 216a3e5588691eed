use Rattle.std.proofs.Common.{subst}
use Rattle.std.specs.Prelude.{IsTrue}
use Rattle.ts_automaton.specs.Typing.{is_automaton}
use Rattle.ts_automaton.proofs.automaton.Automaton.state.Goals as goal

pub returns-clause-rules : goal.returns-clause-rules
returns-clause-rules c = subst (λ b. IsTrue (is_automaton b)) c.self.view_is c.self.invariant
