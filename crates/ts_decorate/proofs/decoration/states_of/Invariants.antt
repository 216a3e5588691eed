use Rattle.std.proofs.Common.{◌≡◌, map, drop, ◌++◌}
use Rattle.ts_automaton.specs.Body.{node_of}
use Rattle.ts_decorate.specs.Decoration.{nodes_made, state_names}
use Rattle.ts_decorate.proofs.decoration.states_of.Given as goal

abbrev pub invariant-loop-k : goal.invariant-loop-k
invariant-loop-k l =
    let rest = nodes_made l.builder.a l.builder.aggregator l.builder.feature (drop l.k state_names) (drop l.k l.rows) in
    let all = nodes_made l.builder.a l.builder.aggregator l.builder.feature state_names l.rows in
    map node_of l.states.items ++ rest ≡ all
