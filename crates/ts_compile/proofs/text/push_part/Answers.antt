use Rattle.std.proofs.Common.{ap, ◌∙◌, ◌++◌}
use Rattle.std.specs.String.{string_bytes}
use Rattle.ts_automaton.specs.declared.draft.Direction.TheVariants.{Forward}
use Rattle.ts_automaton.specs.AutomatonText.{words_text, head_text, body_text}
use Rattle.ts_glue.specs.Machines.{forward_of, pair_of}
use Rattle.ts_compile.specs.ProgramText.{term_words, reverse_text}
use Rattle.ts_compile.proofs.Texts.{pieces_pushed}
use Rattle.ts_compile.proofs.text.push_part.Goals as goal

pub returns : goal.returns
returns c =
    let m = c.args.machine.now in
    pieces_pushed c.args.text.now.items (words_text (term_words (string_bytes c.args.name.now) c.args.t.now)) (head_text Forward (forward_of m).wide)
    (body_text (forward_of m)) (reverse_text (pair_of m))
    c.push_term.new.text.items c.write_head.new.text.items c.write.new.text.items c.push_reverse.new.text.items
    c.in_ok-push_term.ensures
    (c.in_ok-write_head.ensures.ok ∙ ap (λ w. c.push_term.new.text.items ++ head_text Forward w) (c.wide.ensures ∙ ap (λ b. b.wide) c.forward-forward.ensures))
    (c.in_ok-write.ensures.ok ∙ ap (λ b. c.write_head.new.text.items ++ body_text b) c.forward-forward.ensures) c.in_ok-push_reverse.ensures
