use Rattle.std.proofs.Common.{codes, map}
use Rattle.ts_automaton.specs.Body.{move_of, node_of}
use Rattle.ts_automaton.specs.AutomatonText.{state_lines, turn_words, each_words, behind_semi}
use Rattle.ts_automaton.proofs.FrontLaws.{move_pushed}
use Rattle.ts_automaton.proofs.writer.push_move.Goals as goal

pub returns : goal.returns
returns c =
    let names = state_lines (map node_of c.args.states.now) in
    move_pushed c.args.text.now.items (codes "move") (turn_words names c.args.k c.args.turn.now.next)
    (each_words behind_semi c.args.wide (move_of c.args.turn.now).to)
    c.push_turn.new.text.items c.push_expressions.new.text.items c.push.new.self.items
    c.in_ok-push_turn.ensures c.in_ok-push_expressions.ensures c.in_ok-push.ensures.items
