use Rattle.ts_automaton.specs.Body.{move_of}
use Rattle.ts_automaton.specs.AutomatonText.{behind_semi}
use Rattle.ts_automaton.proofs.WriteLaws.{each_behind}
use Rattle.ts_automaton.proofs.writer.push_expressions.Goals as goal

pub returns : goal.returns
returns c =
    each_behind behind_semi c.args.wide (move_of c.args.turn.now).to c.args.text.now.items
    c.push_behind_semi.new.text.items c.push_extra.new.text.items c.push_behind_semi-2.new.text.items c.push_extra-2.new.text.items
    c.push_behind_semi-3.new.text.items
    c.in_ok-push_behind_semi.ensures c.in_ok-push_extra.ensures c.in_ok-push_behind_semi-2.ensures c.in_ok-push_extra-2.ensures
    c.in_ok-push_behind_semi-3.ensures
