use Rattle.std.proofs.Common.{map, ◌*◌}
use Rattle.ts_automaton.specs.Body.{node_of}
use Rattle.ts_automaton.specs.AutomatonText.{state_lines}
use Rattle.ts_automaton.proofs.WriteLaws.{three_lines}
use Rattle.ts_automaton.proofs.writer.push_moves_of.Goals as goal

pub returns : goal.returns
returns c =
    three_lines c.args.wide (state_lines (map node_of c.args.states.now)) (3 * c.args.q) (node_of c.args.state.now) c.args.text.now.items
    c.push_move.new.text.items c.push_move-2.new.text.items c.push_move-3.new.text.items
    c.in_ok-push_move.ensures c.in_ok-push_move-2.ensures c.in_ok-push_move-3.ensures
