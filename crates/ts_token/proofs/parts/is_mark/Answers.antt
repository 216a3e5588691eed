use Rattle.std.proofs.Common.{sym, ◌∙◌, arith}
use Rattle.ts_token.specs.Text.{words_of}
use Rattle.ts_token.specs.Views.{piece}
use Rattle.ts_token.proofs.HalfLaws.{mark_none, mark_more, mark_one}
use Rattle.ts_token.proofs.parts.is_mark.Goals as goal

pub returns-in-None : goal.returns-in-None
returns-in-None c = sym (mark_none (words_of c.args.line.now) c.in-None.ensures.none)

pub returns-in-Some-next_word : goal.returns-in-Some-next_word
returns-in-Some-next_word c =
    sym (mark_more (words_of c.args.line.now) (piece c.in-Some.first.word) (piece c.in-Some-next_word.field-0.word) _ _
    c.in-Some.ensures.some.words c.in-Some-next_word.ensures.some.words)

pub returns-in-None-next_word : goal.returns-in-None-next_word
returns-in-None-next_word c =
    grind (arith, c.eq.ensures, c.as_slice.ensures)
    ∙ sym (mark_one (words_of c.args.line.now) (piece c.in-Some.first.word) _ c.in-Some.ensures.some.words c.in-None-next_word.ensures.none)
