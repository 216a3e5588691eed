use Rattle.std.proofs.Common.{◌≡◌, pos, ◌∙◌}
use Rattle.ts_automaton.specs.Formula.{formula}
use Rattle.ts_sweep.specs.HereLaws.{tree_here}
use Rattle.ts_sweep.specs.Sides.{as_read}
use Rattle.ts_sweep.specs.Trees.{tree_value}
use Rattle.ts_sweep.proofs.PairSteps.{as_both_passed}
use Rattle.ts_sweep.proofs.here.HereFront.ends.Goals as goal

pub returns : goal.returns
returns g c =
    let xs = as_read g.H.Packed.sides (g.H.Packed.lanes c.args.h) in
    let e = formula c.args.self.expr.now in
    as_both_passed (λ x y. c.tree_ends.result ≡ tree_value e xs x y) c.args.x c.args.x c.requires.small c.requires.small c.tree_ends.ensures
    ∙ tree_here e xs c.args.x (pos 0)
