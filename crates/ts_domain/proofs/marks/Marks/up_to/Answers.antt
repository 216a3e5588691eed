use Rattle.std.proofs.Common.{subst, pos, neg_ℤ}
use Rattle.ts_domain.specs.Marks.{MarksFrom}
use Rattle.ts_domain.proofs.MarkReads.{plain_cut}
use Rattle.ts_domain.proofs.MarkCuts.{front_two, marks_up_to}
use Rattle.ts_domain.proofs.marks.Marks.up_to.Goals as goal

pub joined-requires : goal.joined-requires
joined-requires c =
    let r = c.split-cut.result in
    front_two (neg_ℤ (pos 1000000)) r.before r.at r.behind (subst (MarksFrom (neg_ℤ (pos 1000000))) c.split-cut.ensures.all c.requires)

pub returns : goal.returns
returns c =
    let e = c.split-cut.ensures in let r = c.split-cut.result in
    marks_up_to c.args.t c.args.self r.before r.at r.behind c.joined.result
    (plain_cut c.args.t c.args.self r.before r.at r.behind c.ranges.t e.all e.before e.at e.behind) c.joined.ensures
