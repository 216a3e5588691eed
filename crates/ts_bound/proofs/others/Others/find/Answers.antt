use Rattle.std.proofs.Common.{◌+◌, ◌<◌, ap, ◌∙◌, length, refl, subst, sym, arith}
use Rattle.ts_bound.specs.declared.others.Others.{Others}
use Rattle.ts_bound.proofs.OthersLaws.{AreFound, cell_found, cell_same}
use Rattle.ts_bound.proofs.others.Others.find.Goals.{then-not-is_same+in_ok-gone+in_ok-push, else-not-is_same}
use Rattle.ts_bound.proofs.others.Others.find.Goals as goal

pub loop-at-preserved : goal.loop-at-preserved
loop-at-preserved c =
    let at = c.loop-at in let seen = c.args.seen.now in let b = c.args.cells.now.present in let all = c.if-not-is_same.self.each.items in
    let few : at.at < length seen = omega (arith, c.loop-at-test.true, c.cells-at-end.ensures.count, c.requires) in
    let x = c.index-seen-at.result in let y = c.cell-now.result.now in
    let is = c.index-seen-at.is in let is' = c.cell-now.ensures in
    elim c.if-not-is_same.branch [
      | then-not-is_same+in_ok-gone+in_ok-push w ↦
          cell_found at.self.each.items all seen b at.at x y w.in_ok-gone.gone at.invariant few is is' w.in_ok-gone.ensures
          (ap (λ (o : Others). o.each.items) w.self-is ∙ w.in_ok-push.ensures.items)
      | else-not-is_same w ↦
          subst (λ (o : Others). AreFound o.each.items seen b (at.at + 1)) (sym w.self-is)
          (cell_same at.self.each.items seen b at.at x y at.invariant few is is' (w.if-not-is_same.ensures refl))
    ]
