use Rattle.std.proofs.Common.{◌∙◌, sym, rules}
use Rattle.ts_validate.proofs.Numbering.{next_some, next_none}
use Rattle.ts_validate.proofs.residuals.Residuals.next.Goals as goal

pub returns-then-has_word-clause-next : goal.returns-then-has_word-clause-next
returns-then-has_word-clause-next c =
    let r = c.in_ok-rest.ensures in
    next_some c.args.self.now c.rest.new.self c.args.i c.in_ok-rest.rest c.number.result c.args.letter r.residuals r.rest.1
    (sym c.if-has_word.true ∙ c.has_word.ensures) c.number.ensures

pub returns-else-has_word-clause-next : goal.returns-else-has_word-clause-next
returns-else-has_word-clause-next c =
    let r = c.in_ok-rest.ensures in
    next_none c.args.self.now c.rest.new.self c.args.i c.in_ok-rest.rest _ c.args.letter r.numbers r.rest.1
    (sym c.if-has_word.false ∙ c.has_word.ensures) (search rules)
