use Rattle.std.proofs.Common.{ap, subst}
use Rattle.std.specs.Prelude.{IsTrue, option_map}
use Rattle.ts_automaton.specs.Typing.{is_automaton}
use Rattle.ts_bound.proofs.SpanEnds.{whole_split, whole_plain}
use Rattle.ts_bound.proofs.laws.machine_is_whole.Goals as goal

pub returns-in-Some : goal.returns-in-Some
returns-in-Some c =
    whole_split c.args.m.now c.in-Some.reverse.now _ c.reverse.ensures (ap (option_map (λ b. b.now)) c.in-Some.is) c.states-in-Some.ensures.rules
    (subst (λ b. IsTrue (is_automaton b)) c.forward.ensures c.states.ensures.rules)

pub returns-in-None : goal.returns-in-None
returns-in-None c =
    whole_plain c.args.m.now _ c.reverse.ensures (ap (option_map (λ b. b.now)) c.in-None.is)
    (subst (λ b. IsTrue (is_automaton b)) c.forward.ensures c.states.ensures.rules)
