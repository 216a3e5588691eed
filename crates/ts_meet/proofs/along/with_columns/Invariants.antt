use Rattle.std.specs.Prelude.{ℕ, length}
use Rattle.ts_base.specs.declared.span.Span.{Span}
use Rattle.ts_glue.specs.Pairs.{Pair}
use Rattle.ts_meet.specs.Along.{hull_over, with_along}
use Rattle.ts_meet.specs.Joints.{AreJoints}
use Rattle.ts_meet.specs.Sides.{StandFor}
use Rattle.ts_meet.proofs.along.with_columns.Given as goal

abbrev pub invariant-loop-r : goal.invariant-loop-r
invariant-loop-r g l =
    (p : Pair) (so_far : ℕ → Span) → AreJoints p l.joints → StandFor l.fn.hull (hull_over so_far (length l.values)) →
    StandFor l.all (hull_over (with_along g.row.N p l.q l.left l.right l.from l.values l.cells l.r so_far) (length l.values))
