use Rattle.std.proofs.Common.{arith}
use Rattle.ts_mark.proofs.Texts.{joined_more}
use Rattle.ts_mark.proofs.text.push_joined.Goals as goal

pub returns : goal.returns
returns c =
    let some = c.if-first-behind.false in
    joined_more c.push_more.result c.args.first c.args.behind c.args.text.now.items c.push_numeral.new.text.items c.push_more.new.text.items
    (omega (arith, some)) c.in_ok-push_numeral.ensures c.push_more.ensures
