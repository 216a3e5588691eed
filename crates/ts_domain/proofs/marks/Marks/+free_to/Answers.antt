use Rattle.std.proofs.Common.{sym, ap, ◌∙◌, subst}
use Rattle.ts_domain.specs.Marks.{mark_at}
use Rattle.ts_domain.specs.MarkTree.{marks_of, RootFits}
use Rattle.ts_domain.proofs.MarkReads.{opened_as}
use Rattle.ts_domain.proofs.Stretches.{free_behind, free_before}
use Rattle.ts_domain.proofs.marks.Marks.+free_to.Goals as goal

pub returns-in-Empty-clause-free : goal.returns-in-Empty-clause-free
unfolding mark_at
returns-in-Empty-clause-free t c = λ w from to. sym (ap (λ r. mark_at w (marks_of r)) (sym c.in-Empty.is) ∙ ap (mark_at w) c.self.view_is)

pub returns-then-here-v-clause-free : goal.returns-then-here-v-clause-free
returns-then-here-v-clause-free t c =
    let n = c.in-Full.node.value in
    let o = opened_as c.args.self.now n.before n.mark n.behind (ap marks_of (sym c.in-Full.is) ∙ c.self.view_is)
    (subst RootFits c.in-Full.is c.self.invariant).0 in
    free_behind c.args.self.now n c.deref.result.now c.deref-then-here-v.result.now c.args.v c.free_to.result o c.deref.ensures
    c.deref-then-here-v.ensures c.ranges.v (record { sfits = c.free_to.type_inv }) c.if-here-v.true c.free_to.ensures.free

pub returns-clause-free : goal.returns-clause-free
returns-clause-free t c =
    let n = c.in-Full.node.value in
    let o = opened_as c.args.self.now n.before n.mark n.behind (ap marks_of (sym c.in-Full.is) ∙ c.self.view_is)
    (subst RootFits c.in-Full.is c.self.invariant).0 in
    free_before c.args.self.now n c.deref.result.now c.deref-2.result.now c.args.v c.args.end c.min-sooner.result c.free_to-2.result o c.deref.ensures
    c.deref-2.ensures c.ranges.v (record { sfits = c.min-sooner.type_inv }) (record { sfits = c.free_to-2.type_inv }) c.min-sooner.ensures.value
    c.free_to-2.ensures.to c.free_to-2.ensures.free
