-- The run of a table over a series, by any operators.
use Rattle.std.specs.Prelude.{ℕ, ℤ, List, [], ◌∷◌}
use Rattle.ts_base.specs.Signature.{letter_of}
use Rattle.ts_transducer.specs.declared.row.Row.{Row}
use Rattle.ts_transducer.specs.Decode.{arrow_at}
use Rattle.ts_automaton.specs.AutomatonRun.{Standing}
use Rattle.ts_decorate.specs.Operators.{Operators, after_phase, at_start}

abbrev pub table_start : {V : Type 0} → Operators V → Standing V
table_start o = record { state = 0; regs = at_start o }

-- over says what a cell is worth
abbrev pub table_step : {V : Type 0} → Operators V → (ℤ → V) → ℕ → List Row → Standing V → ℤ → ℤ → Standing V
table_step o over a rows st x y =
    let m = arrow_at rows st.state (letter_of x y) in
    record { state = m.next; regs = after_phase o a m.phase st.regs (over x) (over y) }

abbrev pub table_after : {V : Type 0} → Operators V → (ℤ → V) → ℕ → List Row → Standing V → ℤ → List ℤ → Standing V
table_after o over a rows st x [] = st
table_after o over a rows st x (y ∷ ys) = table_after o over a rows (table_step o over a rows st x y) y ys
