use Rattle.std.proofs.Common.{◌≡◌, ◌+◌, ◌*◌, ◌++◌, map, take, length}
use Rattle.ts_automaton.specs.Body.{move_of, node_of}
use Rattle.ts_automaton.specs.AutomatonText.{state_lines, all_moves}
use Rattle.ts_automaton.proofs.automaton_text.grouped.Given as goal

abbrev pub invariant-loop-line : goal.invariant-loop-line
invariant-loop-line l = record {
  lines : state_lines (map node_of l.states.items) ≡ take l.line-index l.lines;
  moves : all_moves (map node_of l.states.items) ++ map move_of l.moves.items ≡ map move_of l.fn.moves.items;
  left : length l.moves.items + 3 * l.line-index ≡ 3 * length l.lines;
}
