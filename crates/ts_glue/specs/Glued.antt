-- The glued value at each cell of a series, over numbers and over spans, and the law that it is the same at all cells.
use Rattle.std.specs.Prelude.{◌≡◌, ◌<◌, ◌≤◌, ℕ, ◌+◌, ◌-◌, ℤ, pos, ◌&&◌, List, length, take, drop, reverse, get_or, if◌then◌else◌}
use Rattle.ts_base.specs.declared.ext.Ext.{Ext}
use Rattle.ts_base.specs.declared.span.Span.{Span}
use Rattle.ts_base.specs.Limits.{most_cells}
use Rattle.ts_base.specs.Spans.{none_span}
use Rattle.ts_automaton.specs.Registers.{Values, numbers, spans}
use Rattle.ts_automaton.specs.AutomatonRun.{Standing, after, answer, under_mark, AreCellValues}
use Rattle.ts_automaton.specs.SpanRun.{has_registers, marked_span}
use Rattle.ts_glue.specs.Pairs.{Pair}
use Rattle.ts_glue.specs.Glue.{glue_in, glue_of}

-- before the mark, over any values, at the cell x where the two runs stand
abbrev pub glue_at : {A : Type 0} → Values A → Pair → Standing A → Standing A → ℤ → A
glue_at m p left right x = glue_in m left.regs right.regs (glue_of p left.state right.state x)

-- under the mark, of a series of n cells
abbrev pub glued_value : Pair → Standing Ext → Standing Ext → ℤ → ℕ → Ext
glued_value p left right x n = under_mark p.forward.mark n (glue_at numbers p left right x)

-- over hulls, before the mark; none where a hull is none
abbrev pub glue_span_at : Pair → Standing Span → Standing Span → ℤ → Span
glue_span_at p left right x =
    if has_registers left.regs && has_registers right.regs then glue_at spans p left right x else none_span

abbrev pub glued_span : Pair → Standing Span → Standing Span → ℤ → ℕ → Span
glued_span p left right x n = marked_span p.forward.mark n (glue_span_at p left right x)

-- the forward automaton after the cells 1 to k of a series
abbrev pub left_at : Pair → List ℤ → ℕ → Standing Ext
left_at p xs k = after p.forward (take k xs)

-- the reverse automaton after the cells from the last one down to k
abbrev pub right_at : Pair → List ℤ → ℕ → Standing Ext
right_at p xs k = after p.reverse (reverse (drop (k - 1) xs))

-- cell k, counted from 1
abbrev pub cell_at : List ℤ → ℕ → ℤ
cell_at xs k = get_or xs (k - 1) (pos 0)

-- the glued value at cell k
abbrev pub Glued : Pair → List ℤ → ℕ → Ext
Glued p xs k = glued_value p (left_at p xs k) (right_at p xs k) (cell_at xs k) (length xs)

-- on each series of at most n cells within the limits the glued value at the last cell is the forward answer, and at
-- each other cell that at the next one
abbrev pub LocalUpTo : ℕ → Pair → Type 0
LocalUpTo n p =
    (xs : List ℤ) → 1 ≤ length xs → length xs ≤ n → AreCellValues xs →
    (Glued p xs (length xs) ≡ answer p.forward xs)
    × ((k : ℕ) → 1 ≤ k → k < length xs → Glued p xs k ≡ Glued p xs (k + 1))

abbrev pub Local : Pair → Type 0
Local = LocalUpTo most_cells
