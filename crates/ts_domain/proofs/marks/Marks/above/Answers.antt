use Rattle.std.proofs.Common.{refl}
use Rattle.ts_domain.proofs.MarkReads.{plain_cut}
use Rattle.ts_domain.proofs.MarkCuts.{marks_above}
use Rattle.ts_domain.proofs.marks.Marks.above.Goals as goal

pub returns : goal.returns
returns c =
    let e = c.split.ensures in let r = c.split.result in
    marks_above c.args.t c.args.self r.before r.at r.behind r.behind
    (plain_cut c.args.t c.args.self r.before r.at r.behind c.ranges.t e.all e.before e.at e.behind) refl
