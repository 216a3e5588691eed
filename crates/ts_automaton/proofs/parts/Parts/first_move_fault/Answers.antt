use Rattle.std.proofs.Common.{◌<◌, ◌∙◌, sym, length, arith}
use Rattle.std.proofs.lemmas.Grind.{common_steps}
use Rattle.ts_automaton.specs.Body.{parts_of}
use Rattle.ts_automaton.proofs.Listed.{found_here, none_here}
use Rattle.ts_automaton.proofs.parts.Parts.first_move_fault.Goals as goal

pub returns-then-is_some : goal.returns-then-is_some
returns-then-is_some c =
    let h : c.loop-q.q < length c.args.self.now.states.items = grind (arith, common_steps) in
    found_here (parts_of c.args.self.now) _ _ _ h c.move_fault-fault.ensures (sym c.is_some.ensures ∙ c.if-is_some.true) c.loop-q.invariant

pub loop-q-preserved : goal.loop-q-preserved
loop-q-preserved c =
    let h : c.loop-q.q < length c.args.self.now.states.items = grind (arith, common_steps) in
    none_here (parts_of c.args.self.now) _ _ _ h c.move_fault-fault.ensures (sym c.is_some.ensures ∙ c.if-is_some.false) c.loop-q.invariant
