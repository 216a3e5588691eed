use Rattle.std.proofs.Common.{◌≡◌, Some, sym, ap, ◌∙◌, subst, pos, neg_ℤ}
use Rattle.std.proofs.lemmas.Int.{to_z-of_z}
use mir.Syntax.{w64}
use Rattle.std.specs.Prelude.{int_lt, true, false}
use mir.Val.{to_z, of_z}
use Rattle.ts_domain.specs.Marks.{mark_at}
use Rattle.ts_domain.specs.MarkTree.{marks_of, RootFits}
use Rattle.ts_domain.proofs.MarkLaws.{mark_before, mark_here, mark_behind}
use Rattle.ts_domain.proofs.MarkReads.{opened_as, told_less, told_more, told_equal}
use Rattle.ts_domain.proofs.marks.Marks.+at.Goals as goal

pub returns-in-Empty : goal.returns-in-Empty
unfolding mark_at
returns-in-Empty t c = ap (λ r. mark_at c.args.v (marks_of r)) (sym c.in-Empty.is) ∙ ap (mark_at c.args.v) c.self.view_is

pub returns-then-v-deref : goal.returns-then-v-deref
returns-then-v-deref t c =
    let n = c.in-Full.node.value in
    let is = ap marks_of (sym c.in-Full.is) ∙ c.self.view_is in
    let o = opened_as c.args.self.now n.before n.mark n.behind is (subst RootFits c.in-Full.is c.self.invariant).0 in
    let lt = told_less c.args.v n.mark.value c.ranges.v o.from o.to
    (subst (λ d. int_lt (to_z w64 (of_z w64 c.args.v)) (to_z w64 (of_z w64 d.mark.value)) ≡ true) c.deref.ensures c.if-v-deref.true) in
    c.at.ensures ∙ ap (λ x. mark_at x c.deref-then-v-deref.result.now.before) (to_z-of_z w64 c.args.v c.ranges.v) ∙
    ap (λ d. mark_at c.args.v d.before) c.deref-then-v-deref.ensures ∙ mark_before c.args.v (neg_ℤ (pos 1000000)) n.before n.mark n.behind o.rising lt ∙
    ap (mark_at c.args.v) is

pub returns-then-deref-v : goal.returns-then-deref-v
returns-then-deref-v t c =
    let n = c.in-Full.node.value in
    let is = ap marks_of (sym c.in-Full.is) ∙ c.self.view_is in
    let o = opened_as c.args.self.now n.before n.mark n.behind is (subst RootFits c.in-Full.is c.self.invariant).0 in
    let lt = told_more c.args.v n.mark.value c.ranges.v o.from o.to
    (subst (λ d. int_lt (to_z w64 (of_z w64 d.mark.value)) (to_z w64 (of_z w64 c.args.v)) ≡ true) c.deref-else-v-deref.ensures c.if-deref-v.true) in
    c.at-then-deref-v.ensures ∙ ap (λ x. mark_at x c.deref-then-deref-v.result.now.behind) (to_z-of_z w64 c.args.v c.ranges.v) ∙
    ap (λ d. mark_at c.args.v d.behind) c.deref-then-deref-v.ensures ∙ mark_behind c.args.v (neg_ℤ (pos 1000000)) n.before n.mark n.behind o.rising lt ∙
    ap (mark_at c.args.v) is

pub returns-else-deref-v : goal.returns-else-deref-v
returns-else-deref-v t c =
    let n = c.in-Full.node.value in
    let is = ap marks_of (sym c.in-Full.is) ∙ c.self.view_is in
    let o = opened_as c.args.self.now n.before n.mark n.behind is (subst RootFits c.in-Full.is c.self.invariant).0 in
    let e = told_equal c.args.v n.mark.value c.ranges.v o.from o.to
    (subst (λ d. int_lt (to_z w64 (of_z w64 c.args.v)) (to_z w64 (of_z w64 d.mark.value)) ≡ false) c.deref.ensures c.if-v-deref.false)
    (subst (λ d. int_lt (to_z w64 (of_z w64 d.mark.value)) (to_z w64 (of_z w64 c.args.v)) ≡ false) c.deref-else-v-deref.ensures c.if-deref-v.false) in
    ap (λ d. Some d.mark.gone) c.deref-else-deref-v.ensures ∙ mark_here c.args.v (neg_ℤ (pos 1000000)) n.before n.mark n.behind o.rising e ∙
    ap (mark_at c.args.v) is
