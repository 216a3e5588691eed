use Rattle.std.proofs.Common.{◌+◌, refl, ap, ◌∙◌, replicate, arith}
use Rattle.ts_bound.specs.HullTables.{only_looked}
use Rattle.ts_hull.specs.Hulls.{hull_of}
use Rattle.ts_bound.proofs.Emptied.{box_more, box_starts, box_rows, only_length, only_size}
use Rattle.ts_bound.proofs.table.HullTable.empty.Goals as goal

pub loop-k-preserved : goal.loop-k-preserved
loop-k-preserved c =
    let w = c.args.window in let cells = c.args.cells.now.present in
    let l = only_length w cells c.requires in
    box_more c.args.states c.loop-k.starts.items _ c.loop-k.total c.in_ok-total.total (only_looked w cells) c.loop-k.k c.looked_size.result
    _ (omega (arith, l, c.loop-k-test.true, c.cells-k-end.ensures.count))
    (only_size w cells (c.loop-k.k + 1) c.looked_size.result c.requires (omega arith) (omega (arith, c.loop-k-test.true, c.cells-k-end.ensures.count))
    c.looked_size.ensures) refl c.in_ok-total.ensures c.in_ok-push-2.ensures.items c.loop-k.invariant

pub invariant_of-result : goal.invariant_of-result
invariant_of-result c =
    let l = only_length c.args.window c.args.cells.now.present c.requires in
    box_starts c.args.states c.loop-k.starts.items c.loop-k.total (only_looked c.args.window c.args.cells.now.present) c.loop-k.k _ _
    (omega (arith, l, c.loop-k-test.false, c.cells-k-end.ensures.count)) c.loop-k.invariant
    (c.in_ok-from_elem.ensures.items_if_clones_equal (λ y e. e))

pub returns : goal.returns
returns c =
    let l = only_length c.args.window c.args.cells.now.present c.requires in
    box_rows c.args.states c.loop-k.starts.items c.loop-k.total (only_looked c.args.window c.args.cells.now.present) c.loop-k.k _ _
    (omega (arith, l, c.loop-k-test.false, c.cells-k-end.ensures.count)) c.loop-k.invariant
    (c.in_ok-from_elem.ensures.items_if_clones_equal (λ y e. e) ∙ ap (λ h. replicate c.loop-k.total h) (ap hull_of c.none.ensures))
