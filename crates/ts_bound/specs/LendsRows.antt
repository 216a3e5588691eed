-- What a table is after a lent row was written.
use Rattle.std.specs.Prelude.{ℕ, ◌-◌, List, ◌++◌}
use Rattle.std.specs.Borrow.{Lends, LendsBoth, MutBor, Fml, Array}
use Rattle.ts_automaton.specs.declared.regs.Hull.{Hull}
use Rattle.ts_automaton.specs.contracts.regs.Hull as hull
use Rattle.ts_bound.specs.contracts.table.HullTable.{the_row}
use Rattle.ts_bound.specs.Rows.{with_written}

-- the table ends with the row of cell k as it was left, and every other row as it was (`WrittenRowsAreSet`)
abbrev pub LendsRow : MutBor (List (List Hull)) → ℕ → MutBor (List Hull) → Fml
LendsRow t k r = Lends the_row (Array hull.the_row 0) t r (with_written t.now (k - 1))

-- the table ends with the rows of cells k and k + 1 as they were left, and every other row as it was
-- (`TwoWrittenRowsAreSet`)
abbrev pub LendsTwo : MutBor (List (List Hull)) → ℕ → MutBor (List Hull) × MutBor (List Hull) → Fml
LendsTwo t k r =
    LendsBoth the_row (Array hull.the_row 0) (Array hull.the_row 0) t r (λ a b. with_written t.now (k - 1) (a ++ b))

-- two parts of a slice: the first n, and the rest
abbrev pub LendsParts : MutBor (List Hull) → MutBor (List Hull) × MutBor (List Hull) → Fml
LendsParts s r = LendsBoth (Array hull.the_row 0) (Array hull.the_row 0) (Array hull.the_row 0) s r ◌++◌
