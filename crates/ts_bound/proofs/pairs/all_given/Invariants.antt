use Rattle.std.proofs.Common.{◌≡◌, pos, get_or}
use Rattle.ts_hull.specs.Sealed.{move_at}
use Rattle.ts_hull.specs.Sweeps.{total, pair_gives}
use Rattle.ts_bound.specs.Moves.{states_in}
use Rattle.ts_bound.proofs.pairs.all_given.Given as goal

abbrev pub invariant-loop-i : goal.invariant-loop-i
invariant-loop-i l = l.all ≡ total l.i
    (pair_gives (move_at l.m.automaton.now l.q l.l) l.l (states_in l.m) l.q l.m.values.domain.now l.m.before.now
    (get_or l.m.next_values.domain.now l.j (pos 0)))
