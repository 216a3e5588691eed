use Rattle.std.proofs.Common.{◌≡◌, ◌<◌, ℕ, get_or, length}
use Rattle.ts_glue.specs.declared.shape.Shape.TheVariants.{Apart}
use Rattle.ts_glue.specs.Pairs.{pair, table_view}
use Rattle.ts_glue.specs.Shapes.{shape_of}
use Rattle.ts_glue.proofs.shape.row_of.Given as goal

abbrev pub invariant-loop-r : goal.invariant-loop-r
invariant-loop-r l =
    (length l.row ≡ 8) × ((i : ℕ) → i < l.r → get_or l.row i Apart ≡ shape_of (pair l.forward l.reverse (table_view l.table)) l.q i)
