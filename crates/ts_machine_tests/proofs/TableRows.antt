-- The tables of a machine have a row for each cell.
use Rattle.std.proofs.Common.{◌≡◌, ap, ◌∙◌, arith}
use Rattle.std.specs.Prelude.{◌≤◌, ℕ, ℤ, List, [], length, Option, None, Some, IfSome, IsSome}
use Rattle.ts_automaton.specs.declared.regs.Hull.{Hull}
use Rattle.ts_automaton.specs.Body.{Body}
use Rattle.ts_base.specs.declared.range.Range.{Range}
use Rattle.ts_base.specs.Windows.{LooksInside, looked_at}
use Rattle.ts_bound.proofs.Looking.{looked_length, windowed_length}
use Rattle.ts_bound.proofs.TableLaws.{length-forward, length-backward}
use Rattle.ts_bound.specs.HullTables.{forward_table, backward_table, forward_rows, backward_rows}
use Rattle.ts_bound.specs.Rows.{IsRow}

pub looked_ahead : (b : Body) (w : Option Range) (cells : List (List ℤ)) (rows : List (List Hull)) (k : ℕ) → rows ≡ forward_table b w cells →
    LooksInside (length cells) w → 1 ≤ k → k ≤ length cells → IsRow k rows
looked_ahead b w cells rows k is looks some few =
    let inner = looked_at w cells in
    let l = ap length is ∙ windowed_length (length cells) (forward_rows b inner) w looks (length-forward b [] inner ∙ looked_length w cells looks) in
    (some, omega (arith, l, few))

pub looked_back : (o : Option Body) (w : Option Range) (cells : List (List ℤ)) (rows : List (List Hull)) (k : ℕ) → IsSome o →
    IfSome o (λ b. rows ≡ backward_table b w cells) → LooksInside (length cells) w → 1 ≤ k → k ≤ length cells → IsRow k rows
looked_back None w cells rows k there is looks some few = cc
looked_back (Some b) w cells rows k there is looks some few =
    let inner = looked_at w cells in
    let l = ap length is ∙ windowed_length (length cells) (backward_rows b inner) w looks (length-backward b inner ∙ looked_length w cells looks) in
    (some, omega (arith, l, few))
