use Rattle.ts_user.proofs.ExpressionLaws as laws
use Rattle.ts_user.proofs.text_laws.expression_is_of_the_grammar.Goals as goal

pub returns : goal.returns
returns c = laws.expression_is
