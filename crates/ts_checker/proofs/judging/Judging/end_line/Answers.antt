use Rattle.std.proofs.Common.{refl}
use Rattle.ts_checker.proofs.JudgingLaws.{line_judged}
use Rattle.ts_checker.proofs.judging.Judging.end_line.Goals as goal

pub returns-clause-judged : goal.returns-clause-judged
returns-clause-judged c =
    let fed = c.in_ok-feed_line.ensures in
    line_judged c.args.self.now (record { checker = c.feed_line.new.self; line = c.clear.new.self }) c.args.self.now.line.bytes.items
    c.end.new.self.bytes.items c.deref.result.now refl c.in_ok-end.ensures.ok c.deref.ensures.value fed.takes c.requires
