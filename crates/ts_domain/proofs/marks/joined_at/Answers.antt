use Rattle.std.proofs.Common.{◌∷◌, ◌++◌, pos, neg_ℤ, refl, sym, subst, ap, ◌∙◌}
use Rattle.ts_domain.specs.Marks.{gain, MarksFrom}
use Rattle.ts_domain.proofs.MarkReads.{summed_marks}
use Rattle.ts_domain.proofs.marks.joined_at.Goals as goal

pub overflow_add-more : goal.overflow_add-more
overflow_add-more c = (summed_marks c.args.before c.args.node.value.mark c.deref.result.now.mark c.args.behind c.more.result c.more-2.result _ c.requires
    (ap (λ n. n.mark) c.deref.ensures) c.more.ensures c.more-2.ensures refl).first

pub overflow_add-more-2 : goal.overflow_add-more-2
overflow_add-more-2 c = (summed_marks c.args.before c.args.node.value.mark c.deref.result.now.mark c.args.behind c.more.result c.more-2.result c.more-3.result
    c.requires (ap (λ n. n.mark) c.deref.ensures) c.more.ensures c.more-2.ensures c.more-3.ensures).second

pub invariant_of-result : goal.invariant_of-result
invariant_of-result c =
    let same = ap (λ n. n.mark) c.deref.ensures in
    let s = summed_marks c.args.before c.args.node.value.mark c.deref.result.now.mark c.args.behind c.more.result c.more-2.result c.more-3.result
    c.requires same c.more.ensures c.more-2.ensures c.more-3.ensures in (
      subst (λ m. MarksFrom (neg_ℤ (pos 1000000)) (c.args.before ++ m ∷ c.args.behind)) (sym same) c.requires,
      s.same ∙ ap (λ m. gain (c.args.before ++ m ∷ c.args.behind)) (sym same),
    )
