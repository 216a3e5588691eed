use Rattle.ts_occurrence.proofs.Known.{noted_right}
use Rattle.ts_occurrence.proofs.residuals.Residuals.after.Goals as goal

pub returns-in_ok-next-in-None-clause-right : goal.returns-in_ok-next-in-None-clause-right
returns-in_ok-next-in-None-clause-right c =
    (noted_right c.args.self.now.met.items c.number_of.new.self.met.items c.args.number c.in_ok-next-in-None.next c.args.l c.index_mut.result.now _
    c.set_after.new.self _ _
    c.requires.there c.get.ensures c.in_ok-rest-in-None.ensures.exact c.in_ok-next-in-None.ensures.grown c.in_ok-next-in-None.ensures.right
    c.in_ok-next-in-None.ensures.exact c.index_mut.ensures.value c.set_after.ensures).0

pub returns-in_ok-next-in-None-clause-grown : goal.returns-in_ok-next-in-None-clause-grown
returns-in_ok-next-in-None-clause-grown c =
    (noted_right c.args.self.now.met.items c.number_of.new.self.met.items c.args.number c.in_ok-next-in-None.next c.args.l c.index_mut.result.now _
    c.set_after.new.self _ _
    c.requires.there c.get.ensures c.in_ok-rest-in-None.ensures.exact c.in_ok-next-in-None.ensures.grown c.in_ok-next-in-None.ensures.right
    c.in_ok-next-in-None.ensures.exact c.index_mut.ensures.value c.set_after.ensures).1

pub returns-in_ok-next-in-None-clause-exact : goal.returns-in_ok-next-in-None-clause-exact
returns-in_ok-next-in-None-clause-exact c =
    (noted_right c.args.self.now.met.items c.number_of.new.self.met.items c.args.number c.in_ok-next-in-None.next c.args.l c.index_mut.result.now _
    c.set_after.new.self _ _
    c.requires.there c.get.ensures c.in_ok-rest-in-None.ensures.exact c.in_ok-next-in-None.ensures.grown c.in_ok-next-in-None.ensures.right
    c.in_ok-next-in-None.ensures.exact c.index_mut.ensures.value c.set_after.ensures).2
