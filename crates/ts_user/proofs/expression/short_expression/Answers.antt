use Rattle.ts_user.proofs.DescentLaws.{word_open}
use Rattle.ts_user.proofs.expression.short_expression.Goals as goal

pub returns-else-read-eq0 : goal.returns-else-read-eq0
returns-else-read-eq0 c =
    word_open c.args.word.now c.in_ok-read_level.field-0 c.in-Some.read c.requires c.in_ok-read_level.ensures.same c.in_ok-read_level.ensures.ends
    c.in-Some.is c.if-read-eq0.false
