use Rattle.std.proofs.Common.{refl}
use Rattle.ts_base.specs.declared.op.Op.TheVariants.{Add, Max}
use Rattle.ts_automaton.specs.declared.expr.Atom.TheVariants.{R, This}
use Rattle.ts_automaton.specs.declared.expr.Operator.TheVariants.{Fold}
use Rattle.ts_automaton.specs.Formula.{Join, Leaf}
use Rattle.ts_hull.specs.Splits.{TailOf}
use Rattle.ts_sweep.specs.PairMoves.{start_atom}
use Rattle.ts_sweep.specs.Sides.{has_wide}
use Rattle.ts_row.proofs.SumShapes.{emitted_swept}
use Rattle.ts_row.proofs.sum_shapes.add_fall.Goals as goal

pub take_turned-requires-clause-swept : goal.take_turned-requires-clause-swept
take_turned-requires-clause-swept g c =
    emitted_swept (has_wide g.row.N) (Leaf (start_atom Max)) (TailOf Add (Join (Fold Add) (Leaf R) (Leaf This))) refl
