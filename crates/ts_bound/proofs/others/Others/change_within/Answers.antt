use Rattle.std.proofs.Common.{◌++◌, ◌∷◌, [], ◌∙◌, ap, take, sym, subst, arith}
use Rattle.std.proofs.lemmas.List.{take_more}
use Rattle.ts_bound.specs.Others.{IsCovered}
use Rattle.ts_bound.proofs.OthersLaws.{counted}
use Rattle.ts_bound.proofs.others.Others.change_within.Goals as goal

pub with_other-change-requires : goal.with_other-change-requires
with_other-change-requires c = counted c.args.from c.args.to (take c.loop-i.i c.args.self.now.each.items) c.index.result.now c.loop-i.change c.loop-i.invariant

pub loop-i-preserved : goal.loop-i-preserved
loop-i-preserved c =
    let all = c.args.self.now.each.items in let i = c.loop-i.i in let o = c.index.result.now in
    subst (λ l. IsCovered c.args.from c.args.to l c.with_other-change.result)
    (ap (λ p. take i all ++ p ∷ []) c.index.ensures ∙ sym (take_more all i o (omega (arith, c.loop-i-test.true, c.len-i-end.ensures))))
    (c.with_other-change.ensures (take i all) c.loop-i.invariant)
