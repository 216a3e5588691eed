use Rattle.std.proofs.Common.{[], ap, ◌∙◌, get_or, refl, arith}
use Rattle.ts_bound.proofs.OthersLaws.{all_taken, one_taken}
use Rattle.ts_filter.proofs.meeting.take_over.Goals as goal

pub loop-i-preserved : goal.loop-i-preserved
loop-i-preserved c =
    let b = c.args.cells.now.present in let o = c.index.result.now in
    one_taken c.args.others.now.each.items c.loop-i.seen.items b _ c.loop-i.i o.at o c.replace.new.dest c.loop-i.invariant
    (omega (arith, c.loop-i-test.true, c.len-i-end.ensures)) c.index.ensures refl
    (c.replace.ensures.after ∙ c.in_ok-domain.ensures.same ∙ c.cell.ensures ∙ ap (λ i. get_or b i []) (omega arith)) refl

pub returns : goal.returns
returns c =
    all_taken c.args.others.now.each.items c.loop-i.seen.items c.args.cells.now.present c.loop-i.i (omega (arith, c.loop-i-test.false, c.len-i-end.ensures))
    c.loop-i.invariant
