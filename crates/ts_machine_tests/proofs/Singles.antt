-- Cells of one value, of which nothing can be dropped.
use Rattle.std.proofs.Common.{◌≡◌, ℕ, ◌<◌, ◌≤◌, ℤ, List, length, sym, subst, arith}
use Rattle.ts_model.specs.declared.model.Require.{Require}
use Rattle.ts_filter.specs.Boxes.{Box, values_at}
use Rattle.ts_filter.specs.KeptCells.{AreKept, TermKept, with_known, with_spared}
use Rattle.ts_filter.specs.RefutedWorseDrop.{Spans}
use Rattle.ts_filter.proofs.SparedLaws.{cell_kept}

pub single_kept : (b : Box) (k : ℕ) (limit : ℤ) (kept new : List TermKept) → new ≡ with_known (with_spared k limit) 0 kept → 1 ≤ k →
    length (values_at k b) < 2 →
    ((rs : List Require) (s : Spans) → AreKept rs s b kept) → (rs : List Require) (s : Spans) → AreKept rs s b new
single_kept b k limit kept new is from few h rs s =
    subst (AreKept rs s b) (sym is)
    (cell_kept rs s b kept 0 k limit from (h rs s) (λ v j r c up at of_term d. let many = d.many in omega (arith, few, many)))
