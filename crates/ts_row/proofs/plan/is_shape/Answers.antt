use Rattle.std.proofs.Common.{◌∙◌}
use Rattle.ts_automaton.specs.Body.{move_of}
use Rattle.ts_sweep.specs.Here.{here_move}
use Rattle.ts_row.proofs.ShapeLaws.{tested_shape}
use Rattle.ts_row.proofs.plan.is_shape.Goals as goal

pub returns : goal.returns
returns c =
    tested_shape c.args.wide c.args.s (here_move c.args.equal (move_of c.args.t.now)) c.is_words.result c.is_words-2.result c.is_result.result c.are_low.result
    c.requires (λ t. c.is_words.ensures t ∙ c.held_words-c.ensures.c) (λ t. c.is_words-2.ensures t ∙ c.open_words-d.ensures.d) c.is_result.ensures
    (λ t w. ((c.are_low.ensures t w).0 ∙ c.held_words-c.ensures.e, (c.are_low.ensures t w).1 ∙ c.open_words-d.ensures.f))
