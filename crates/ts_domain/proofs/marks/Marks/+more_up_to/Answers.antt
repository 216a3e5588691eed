use Rattle.std.proofs.Common.{refl, sym, ap, ◌∙◌, subst}
use Rattle.ts_domain.specs.Marks.{gain}
use Rattle.ts_domain.specs.MarkTree.{marks_of, RootFits}
use Rattle.ts_domain.proofs.MarkReads.{opened_as}
use Rattle.ts_domain.proofs.PlaceLaws.{up_to, more_before, more_behind}
use Rattle.ts_domain.proofs.marks.Marks.+more_up_to.Goals as goal

pub returns-in-Empty : goal.returns-in-Empty
unfolding gain
returns-in-Empty t c = ap (λ r. gain (up_to c.args.t (marks_of r))) (sym c.in-Empty.is) ∙ ap (λ l. gain (up_to c.args.t l)) c.self.view_is

pub returns-then-t-deref : goal.returns-then-t-deref
returns-then-t-deref t c =
    let n = c.in-Full.node.value in
    let o = opened_as c.args.self.now n.before n.mark n.behind (ap marks_of (sym c.in-Full.is) ∙ c.self.view_is)
    (subst RootFits c.in-Full.is c.self.invariant).0 in
    more_before c.args.self.now n c.deref.result.now c.deref-then-t-deref.result.now c.args.t c.more_up_to.result o c.deref.ensures
    c.deref-then-t-deref.ensures c.ranges.t (record { sfits = c.more_up_to.type_inv }) c.if-t-deref.true c.more_up_to.ensures

pub overflow_add-result : goal.overflow_add-result
overflow_add-result t c =
    let n = c.in-Full.node.value in
    let o = opened_as c.args.self.now n.before n.mark n.behind (ap marks_of (sym c.in-Full.is) ∙ c.self.view_is)
    (subst RootFits c.in-Full.is c.self.invariant).0 in
    (more_behind c.args.self.now n c.deref.result.now c.deref-2.result.now c.deref-3.result.now n c.args.t c.more.result c.more-2.result _ o
    c.deref.ensures c.deref-2.ensures c.deref-3.ensures refl c.ranges.t c.if-t-deref.false c.more.ensures c.more-2.ensures refl).first

pub overflow_add-result-2 : goal.overflow_add-result-2
overflow_add-result-2 t c =
    let n = c.in-Full.node.value in
    let o = opened_as c.args.self.now n.before n.mark n.behind (ap marks_of (sym c.in-Full.is) ∙ c.self.view_is)
    (subst RootFits c.in-Full.is c.self.invariant).0 in
    (more_behind c.args.self.now n c.deref.result.now c.deref-2.result.now c.deref-3.result.now c.deref-4.result.now c.args.t c.more.result
    c.more-2.result c.more_up_to-2.result o
    c.deref.ensures c.deref-2.ensures c.deref-3.ensures c.deref-4.ensures c.ranges.t
    c.if-t-deref.false c.more.ensures c.more-2.ensures c.more_up_to-2.ensures).second

pub returns : goal.returns
returns t c =
    let n = c.in-Full.node.value in
    let o = opened_as c.args.self.now n.before n.mark n.behind (ap marks_of (sym c.in-Full.is) ∙ c.self.view_is)
    (subst RootFits c.in-Full.is c.self.invariant).0 in
    (more_behind c.args.self.now n c.deref.result.now c.deref-2.result.now c.deref-3.result.now c.deref-4.result.now c.args.t c.more.result
    c.more-2.result c.more_up_to-2.result o
    c.deref.ensures c.deref-2.ensures c.deref-3.ensures c.deref-4.ensures c.ranges.t
    c.if-t-deref.false c.more.ensures c.more-2.ensures c.more_up_to-2.ensures).same
