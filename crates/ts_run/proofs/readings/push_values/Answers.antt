use Rattle.std.proofs.Common.{arith}
use Rattle.ts_run.proofs.ReadingTexts.{cut_back}
use Rattle.ts_run.proofs.readings.push_values.Goals as goal

pub returns-in-Err-clause-err : goal.returns-in-Err-clause-err
returns-in-Err-clause-err c =
    let e = c.in-Err.ensures.err in
    let text = c.args.text.now in
    let long = c.len-before.ensures in
    let counted = text.ok.0 in
    cut_back text.items c.push_line.new.text.items c.truncate.new.self.items e.0 c.len-before.result (omega (arith, long, counted)) e.1
    c.truncate.ensures.items
