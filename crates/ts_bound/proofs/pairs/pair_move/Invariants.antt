use Rattle.std.proofs.Common.{◌≡◌, pos, length, get_or}
use Rattle.ts_automaton.specs.Body.{move_of}
use Rattle.ts_hull.specs.Sweeps.{step_place, puts, move_entry}
use Rattle.ts_bound.specs.Moves.{states_in}
use Rattle.ts_bound.proofs.pairs.pair_move.Given as goal

abbrev pub invariant-loop-k : goal.invariant-loop-k
invariant-loop-k l = l.next ≡ puts (states_in l.m) l.t.next (step_place l.l (length l.m.next_values.domain.now))
    (λ j. move_entry (move_of l.t) l.l (states_in l.m) l.q l.m.values.domain.now l.m.before.now (get_or l.m.next_values.domain.now j (pos 0))) l.fn.next l.k
