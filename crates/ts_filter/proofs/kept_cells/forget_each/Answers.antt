use Rattle.std.proofs.Common.{◌∙◌, ap, slice_set, sym, refl, arith}
use Rattle.ts_filter.specs.KeptCells.{forgotten}
use Rattle.ts_filter.proofs.SparedLaws.{all_mapped, next_mapped}
use Rattle.ts_filter.proofs.kept_cells.forget_each.Goals as goal

pub loop-term-preserved : goal.loop-term-preserved
loop-term-preserved c =
    let now = c.loop-term.each in let term = c.loop-term.term in
    next_mapped forgotten term c.args.each.now now (slice_set now term c.forget.new.self) c.index-each-term.result c.forget.new.self c.loop-term.invariant
    c.loop-term-test.true c.index-each-term.is (c.forget.ensures ∙ ap forgotten (sym c.index-each-term.is)) refl

pub returns : goal.returns
returns c =
    c.loop-term.invariant ∙ all_mapped forgotten c.loop-term.term c.args.each.now (let over = c.loop-term-test.false in omega (arith, over))
