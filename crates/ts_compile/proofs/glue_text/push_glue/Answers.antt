use Rattle.std.proofs.Common.{codes, ap, ◌∙◌, ◌∷◌, ◌++◌}
use Rattle.ts_compile.specs.ProgramText.{trim_word, fold_word, unit_word}
use Rattle.ts_compile.proofs.Texts.{four_pushed}
use Rattle.ts_compile.proofs.glue_text.push_glue.Goals as goal

pub returns : goal.returns
returns c =
    let t = c.args.table.now in
    four_pushed c.args.text.now.items (codes "glue") (trim_word t.a) (fold_word t.op) (unit_word t.unit)
    c.extend_from_slice.new.self.items c.push_word.new.text.items c.push_word-2.new.text.items c.push_word-3.new.text.items c.push.new.self.items
    c.in_ok-extend_from_slice.ensures.items
    (c.in_ok-push_word.ensures ∙ ap (λ w. c.extend_from_slice.new.self.items ++ (32 ∷ w)) c.trim_word.ensures)
    (c.in_ok-push_word-2.ensures ∙ ap (λ w. c.push_word.new.text.items ++ (32 ∷ w)) c.fold_word.ensures)
    (c.in_ok-push_word-3.ensures ∙ ap (λ w. c.push_word-2.new.text.items ++ (32 ∷ w)) c.unit_word.ensures)
    c.in_ok-push.ensures.items
