use Rattle.std.proofs.Common.{◌≡◌, ◌-◌, length}
use Rattle.ts_automaton.specs.Body.{parts_of}
use Rattle.ts_automaton.specs.Typing.{move_fault}
use Rattle.ts_automaton.proofs.parts.Parts.first_move_fault.Given as goal

abbrev pub invariant-loop-q : goal.invariant-loop-q
invariant-loop-q l = let b = parts_of l.self in let n = length l.self.states.items in move_fault b 0 n ≡ move_fault b l.q (n - l.q)
