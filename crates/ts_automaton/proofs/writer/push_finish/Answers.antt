use Rattle.std.proofs.Common.{codes, [], ◌∷◌}
use Rattle.ts_automaton.specs.Formula.{formula}
use Rattle.ts_automaton.specs.FormulaText.{formula_words}
use Rattle.ts_automaton.specs.AutomatonText.{mark_word}
use Rattle.ts_automaton.proofs.FrontLaws.{line_pushed}
use Rattle.ts_automaton.proofs.writer.push_finish.Goals as goal

pub returns : goal.returns
returns c =
    line_pushed c.args.text.now.items (codes "finish") (formula_words (formula c.args.finish.now)) (mark_word c.args.mark ∷ [])
    c.extend_from_slice.new.self.items c.push_expr.new.text.items c.push_mark.new.text.items c.push.new.self.items
    c.in_ok-extend_from_slice.ensures.items c.in_ok-push_expr.ensures c.in_ok-push_mark.ensures c.in_ok-push.ensures.items
