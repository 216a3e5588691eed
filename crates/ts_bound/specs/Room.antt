-- How much memory the rows of machines may take that are kept from box to box.
use Rattle.std.specs.Prelude.{ℕ, ℤ, ◌+◌, ◌*◌, List, [], ◌∷◌, Option, if◌then◌else◌, length, max, min, nat_eq}
use Rattle.std.specs.List.{list_any}
use Rattle.ts_base.specs.declared.range.Range.{Range}
use Rattle.ts_automaton.specs.Body.{Body}
use Rattle.ts_domain.specs.Boxes.{Box}
use Rattle.ts_bound.specs.Blocks.{back_states}
use Rattle.ts_bound.specs.Looks.{is_looked}
use Rattle.ts_bound.specs.TermSpans.{Automata}

-- a cell counts for its values, and for eight at least
abbrev pub counted : List ℤ → ℕ
counted values = max (length values) 8

-- what cell k counts for, if it is looked at
abbrev pub counted_at : Option Range → ℕ → List ℤ → ℕ
counted_at window k values = if is_looked window k then counted values else 0

-- what the cells that are looked at count for together, the first of these having number k
abbrev pub values_from : Option Range → ℕ → Box → ℕ
values_from window k [] = 0
values_from window k (values ∷ cells) = counted_at window k values + values_from window (k + 1) cells

-- what a hull takes, in bytes
abbrev pub hull_bytes : Body → ℕ
hull_bytes a = if a.wide then 80 else 48

-- what a value takes in the lists of values that are kept with rows, one list for each direction
abbrev pub listed_bytes : ℕ
listed_bytes = 16

-- what the rows of a machine take, of a box with these cells
abbrev pub row_bytes : Automata → Box → ℕ
row_bytes m cells =
    values_from m.window 1 cells
    * ((length m.forward.states + back_states m.pair) * hull_bytes m.forward + listed_bytes)

-- what those of a machine at place k take, if it is at one of the places that are named
abbrev pub bytes_at : List ℕ → ℕ → Automata → Box → ℕ
bytes_at named k m cells = if list_any (λ place. nat_eq place k) named then row_bytes m cells else 0

-- what those of several take together, the first of these at place k
abbrev pub bytes_from : List ℕ → ℕ → List Automata → Box → ℕ
bytes_from named k [] cells = 0
bytes_from named k (m ∷ ms) cells = bytes_at named k m cells + bytes_from named (k + 1) ms cells

-- each row may have memory for twice its hulls and values, and all together for 200,000,000 bytes
abbrev pub most_bytes : ℕ
most_bytes = 100000000

-- the number, or the greatest one of 64 bits where it is greater than that
abbrev pub saturated : ℕ → ℕ
saturated n = min n 18446744073709551615
