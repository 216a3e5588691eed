use Rattle.std.proofs.Common.{true, false}
use Rattle.ts_base.specs.declared.letter.Letter.TheVariants.{Less, Greater}
use Rattle.ts_row.proofs.SumShapes.{known_cell, this_joined}
use Rattle.ts_row.proofs.sum_shapes.join_cell.Goals as goal

pub returns-in-Less-true-clause-taken : goal.returns-in-Less-true-clause-taken
returns-in-Less-true-clause-taken g c =
    λ is. known_cell g.row.N c.args.t.now c.args.on (g.O.Folds.fold c.args.by) Less c.args.greatest true _ _ c.in-Less-true.is-0 c.in-Less-true.is-1
    (c.emitted_as.ensures.taken is)

pub returns-in-Less-false-clause-taken : goal.returns-in-Less-false-clause-taken
returns-in-Less-false-clause-taken g c =
    let o = g.O.Folds.fold c.args.by in
    λ is. known_cell g.row.N c.args.t.now c.args.on o Less c.args.greatest false _ _ c.in-Less-false.is-0 c.in-Less-false.is-1
    (this_joined g.row.N c.args.t.now c.args.on _ _ o _ _ (g.met.O.Folds.folds c.args.by) (c.emitted_as-in-Less-false.ensures.taken is))

pub returns-in-Greater-true-clause-taken : goal.returns-in-Greater-true-clause-taken
returns-in-Greater-true-clause-taken g c =
    let o = g.O.Folds.fold c.args.by in
    λ is. known_cell g.row.N c.args.t.now c.args.on o Greater c.args.greatest true _ _ c.in-Greater-true.is-0 c.in-Greater-true.is-1
    (this_joined g.row.N c.args.t.now c.args.on _ _ o _ _ (g.met.O.Folds.folds c.args.by) (c.emitted_as-in-Greater-true.ensures.taken is))

pub returns-in-Greater-false-clause-taken : goal.returns-in-Greater-false-clause-taken
returns-in-Greater-false-clause-taken g c =
    λ is. known_cell g.row.N c.args.t.now c.args.on (g.O.Folds.fold c.args.by) Greater c.args.greatest false _ _ c.in-Greater-false.is-0
    c.in-Greater-false.is-1 (c.emitted_as-in-Greater-false.ensures.taken is)
