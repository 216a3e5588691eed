use Rattle.std.proofs.Common.{sym, ap, ◌∙◌, subst, arith}
use Rattle.ts_domain.specs.MarkTree.{marks_of, RootFits}
use Rattle.ts_domain.proofs.MarkReads.{opened, under_first, under_second, shorter_first, shorter_second}
use Rattle.ts_domain.proofs.marks.+joined.Goals as goal

pub joined-requires : goal.joined-requires
joined-requires t c =
    let o = opened c.in-Full.top.value c.deref_mut.result.now c.args.before c.take_sides-outer.result.0 c.take_sides-outer.new.self.mark
    c.take_sides-outer.result.1 (ap marks_of (sym c.in-Full.is) ∙ c.before-2.view_is) (subst RootFits c.in-Full.is c.before-2.invariant).0
    (c.deref_mut.ensures.value ∙ ap (λ b. b.value) c.in-Full.top-is) c.take_sides-outer.ensures.before c.take_sides-outer.ensures.behind
    c.take_sides-outer.ensures.mark in
    let short = shorter_first c.args.before c.args.behind _ _ _ o.is in
    (omega (arith, c.decreases, short), (under_first c.args.before c.args.behind _ _ _ c.requires o.is).0)

pub joined-requires-in-Full-root : goal.joined-requires-in-Full-root
joined-requires-in-Full-root t c =
    let o = opened c.in-Full-root.top.value c.deref_mut-in-Full-root.result.now c.args.behind c.take_sides-inner.result.0 c.take_sides-inner.new.self.mark
    c.take_sides-inner.result.1 (ap marks_of (sym c.in-Full-root.is) ∙ c.behind.view_is) (subst RootFits c.in-Full-root.is c.behind.invariant).0
    (c.deref_mut-in-Full-root.ensures.value ∙ ap (λ b. b.value) c.in-Full-root.top-is) c.take_sides-inner.ensures.before
    c.take_sides-inner.ensures.behind c.take_sides-inner.ensures.mark in
    let short = shorter_second c.args.before c.args.behind _ _ _ o.is in
    (omega (arith, c.decreases, short), (under_second c.args.before c.args.behind _ _ _ c.requires o.is).0)
