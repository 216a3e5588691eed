use Rattle.std.proofs.Common.{◌∙◌, sym}
use Rattle.ts_user.proofs.OutlineLaws.{long_some, long_none}
use Rattle.ts_user.proofs.expression.long_expression.Goals as goal

pub returns-then-is_expression : goal.returns-then-is_expression
returns-then-is_expression c = long_some c.args.word.now c.requires (sym c.is_expression.ensures ∙ c.if-is_expression.true)

pub returns-else-is_expression : goal.returns-else-is_expression
returns-else-is_expression c = long_none c.args.word.now (sym c.is_expression.ensures ∙ c.if-is_expression.false)
