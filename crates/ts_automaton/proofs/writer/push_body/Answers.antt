use Rattle.std.proofs.Common.{List, codes, map, ap, ◌∙◌, [], ◌∷◌, ◌++◌}
use Rattle.ts_automaton.specs.declared.state.State.{State}
use Rattle.ts_automaton.specs.Formula.{formula}
use Rattle.ts_automaton.specs.Registers.{regs_of}
use Rattle.ts_automaton.specs.Body.{node_of}
use Rattle.ts_automaton.specs.AutomatonText.{state_lines, all_moves, state_words, start_words, moves_words, finish_words, lines_text}
use Rattle.ts_automaton.proofs.FrontLaws.{body_pushed}
use Rattle.ts_automaton.proofs.writer.push_body.Goals as goal

pub returns : goal.returns
returns c =
    let parts = c.args.parts.now in
    let state_part : List State → _ = λ xs. lines_text (map state_words (state_lines (map node_of xs))) in
    let move_part : List State → _ = λ xs. lines_text (moves_words parts.wide (state_lines (map node_of xs)) 0 (all_moves (map node_of xs))) in
    body_pushed (map state_words (state_lines (map node_of parts.states.items))) (start_words parts.wide (regs_of parts.start))
    (moves_words parts.wide (state_lines (map node_of parts.states.items)) 0 (all_moves (map node_of parts.states.items)))
    (finish_words (formula parts.finish) parts.mark) (codes "end" ∷ [])
    c.args.text.now.items c.push_states.new.text.items c.push_start.new.text.items c.push_moves.new.text.items c.push_finish.new.text.items
    c.extend_from_slice.new.self.items
    (c.in_ok-push_states.ensures ∙ ap (λ xs. c.args.text.now.items ++ state_part xs) c.deref.ensures.value)
    c.in_ok-push_start.ensures
    (c.in_ok-push_moves.ensures ∙ ap (λ xs. c.push_start.new.text.items ++ move_part xs) c.deref-2.ensures.value)
    c.in_ok-push_finish.ensures
    c.in_ok-extend_from_slice.ensures.items
