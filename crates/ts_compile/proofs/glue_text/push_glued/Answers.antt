use Rattle.std.proofs.Common.{codes, map, ap, ◌∙◌, ◌++◌}
use Rattle.ts_automaton.specs.declared.draft.Direction.TheVariants.{Reverse}
use Rattle.ts_automaton.specs.AutomatonText.{words_text, lines_text, head_text, body_text}
use Rattle.ts_glue.specs.Pairs.{table_view}
use Rattle.ts_compile.specs.ProgramText.{glue_words, join_words}
use Rattle.ts_compile.proofs.JoinStates.{all_between}
use Rattle.ts_compile.proofs.Texts.{more_pushed}
use Rattle.ts_compile.proofs.glue_text.push_glued.Goals as goal

pub returns : goal.returns
returns c =
    let f = c.args.forward.now in
    let r = c.args.reverse.now in
    let t = c.args.table.now in
    more_pushed c.args.text.now.items (head_text Reverse r.wide) (body_text r) (words_text (glue_words (table_view t)))
    (lines_text (map (join_words f r) t.joins.items)) (codes "end\n")
    c.write_head.new.text.items c.write.new.text.items c.push_glue.new.text.items c.push_joins.new.text.items c.extend_from_slice.new.self.items
    (c.in_ok-write_head.ensures.ok ∙ ap (λ w. c.args.text.now.items ++ head_text Reverse w) c.wide.ensures) c.in_ok-write.ensures.ok c.in_ok-push_glue.ensures
    (c.in_ok-push_joins.ensures ∙ ap (λ js. c.push_glue.new.text.items ++ lines_text (map (join_words f r) js)) c.deref.ensures.value)
    c.in_ok-extend_from_slice.ensures.items

pub push_joins-requires : goal.push_joins-requires
push_joins-requires c =
    all_between c.args.forward.now c.args.reverse.now (table_view c.args.table.now) c.deref.result.now c.deref.ensures.value c.requires
