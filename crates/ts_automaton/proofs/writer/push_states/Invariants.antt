use Rattle.std.proofs.Common.{◌≡◌, ◌++◌, map, drop}
use Rattle.ts_automaton.specs.Body.{node_of}
use Rattle.ts_automaton.specs.AutomatonText.{state_lines, state_words, lines_text}
use Rattle.ts_automaton.proofs.writer.push_states.Given as goal

abbrev pub invariant-loop-state : goal.invariant-loop-state
invariant-loop-state l =
    l.text.items ++ lines_text (map state_words (state_lines (map node_of (drop l.state-index l.states))))
    ≡ l.fn.text.items ++ lines_text (map state_words (state_lines (map node_of l.states)))
