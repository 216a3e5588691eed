use Rattle.std.proofs.Common.{subst}
use Rattle.std.specs.Prelude.{IsTrue}
use Rattle.ts_automaton.specs.Typing.{is_automaton}
use Rattle.ts_automaton.proofs.automaton.Automaton.turn.Goals as goal

pub returns-in-Less-clause-rules : goal.returns-in-Less-clause-rules
returns-in-Less-clause-rules c = subst (λ b. IsTrue (is_automaton b)) c.self.view_is c.self.invariant

pub returns-in-Equal-clause-rules : goal.returns-in-Equal-clause-rules
returns-in-Equal-clause-rules c = subst (λ b. IsTrue (is_automaton b)) c.self.view_is c.self.invariant

pub returns-in-Greater-clause-rules : goal.returns-in-Greater-clause-rules
returns-in-Greater-clause-rules c = subst (λ b. IsTrue (is_automaton b)) c.self.view_is c.self.invariant
