use Rattle.ts_mark.proofs.Texts.{count_told}
use Rattle.ts_mark.proofs.text.push_count.Goals as goal

pub returns : goal.returns
returns c =
    count_told c.args.count c.args.text.now.items c.extend_from_slice.new.self.items c.push_numeral.new.text.items c.push.new.self.items
    c.in_ok-extend_from_slice.ensures.items c.in_ok-push_numeral.ensures c.in_ok-push.ensures.items
