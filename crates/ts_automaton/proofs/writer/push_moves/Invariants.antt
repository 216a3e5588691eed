use Rattle.std.proofs.Common.{◌≡◌, ◌++◌, ◌*◌, map, drop}
use Rattle.ts_automaton.specs.Body.{node_of}
use Rattle.ts_automaton.specs.AutomatonText.{state_lines, all_moves, moves_words, lines_text}
use Rattle.ts_automaton.proofs.writer.push_moves.Given as goal

abbrev pub invariant-loop-q : goal.invariant-loop-q
invariant-loop-q l =
    l.text.items ++ lines_text (moves_words l.wide (state_lines (map node_of l.states)) (3 * l.q) (all_moves (map node_of (drop l.q l.states))))
    ≡ l.fn.text.items ++ lines_text (moves_words l.wide (state_lines (map node_of l.states)) 0 (all_moves (map node_of l.states)))
