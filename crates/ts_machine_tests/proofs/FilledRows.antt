-- The rows of a table over all cells are as a row needs them that is made of the one before.
use Rattle.std.proofs.Common.{◌≡◌, ◌*◌, sym, ap, ◌∙◌, subst, arith}
use Rattle.std.specs.Prelude.{◌++◌, ◌≤◌, ◌-◌, IsTrue, ℕ, ℤ, List, [], length, reverse, take, Option, None}
use Rattle.ts_automaton.specs.declared.regs.Hull.{Hull}
use Rattle.ts_automaton.specs.Body.{Body}
use Rattle.ts_automaton.specs.Typing.{is_automaton}
use Rattle.ts_base.specs.declared.range.Range.{Range}
use Rattle.ts_domain.specs.Boxes.{values_at}
use Rattle.ts_bound.proofs.SpanRuns.{forward_row}
use Rattle.ts_bound.proofs.TableLaws.{length-forward, length-row_of, row_stands}
use Rattle.ts_bound.specs.HullTables.{forward_table, row_of}
use Rattle.ts_bound.specs.NextRow.{RowStands}
use Rattle.ts_bound.specs.Rows.{IsRow, row_at}

module _ (a b : Body) (w : Option Range) (cells : List (List ℤ)) (rows : List (List Hull)) (k : ℕ) (same : a ≡ b) (plain : w ≡ None)
    (is : rows ≡ forward_table b w cells) (some : 1 ≤ k) (to : k ≤ length cells) where
  all_rows : rows ≡ forward_table a None cells
  all_rows = is ∙ ap (λ z. forward_table z w cells) (sym same) ∙ ap (λ z. forward_table a z cells) plain

  there : row_at k rows ≡ row_of a (reverse (take (k - 1) cells) ++ []) (values_at k cells)
  there = ap (row_at k) all_rows ∙ forward_row a [] cells (k - 1) (omega (arith, some, to))

  pub has_row : IsRow k rows
  has_row = let l = ap length all_rows ∙ length-forward a [] cells in (some, omega (arith, l, to))

  pub row_long : length (row_at k rows) ≡ length (values_at k cells) * length a.states
  row_long = ap length there ∙ length-row_of a _ (values_at k cells)

  pub row_there_stands : IsTrue (is_automaton a) → RowStands a (values_at k cells) (row_at k rows)
  row_there_stands rules = subst (RowStands a (values_at k cells)) (sym there) (row_stands a rules _ (values_at k cells))
