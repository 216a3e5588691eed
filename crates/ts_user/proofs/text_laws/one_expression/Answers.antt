use Rattle.ts_user.proofs.ExpressionLaws as laws
use Rattle.ts_user.proofs.text_laws.one_expression.Goals as goal

pub returns : goal.returns
returns c = laws.one_expression
