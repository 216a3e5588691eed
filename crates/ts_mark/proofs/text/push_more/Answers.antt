use Rattle.ts_mark.proofs.Texts.{number_more}
use Rattle.ts_mark.proofs.text.push_more.Goals as goal

pub loop-k-preserved : goal.loop-k-preserved
loop-k-preserved c =
    number_more c.loop-k.k c.args.behind c.loop-k.text.items c.push.new.self.items c.push_numeral.new.text.items _ c.loop-k-test.true c.loop-k.invariant
    c.in_ok-push.ensures.items c.in_ok-push_numeral.ensures
