-- What the layers above know of spans, in which nothing speaks of hulls; and of rows of hulls.
use Rattle.std.specs.Prelude.{◌≡◌, ◌≤◌, ℕ, ◌+◌, ◌-◌, ℤ, IsTrue, IfSome, List, [], ◌∷◌, ◌++◌, length, map, set}
use Rattle.ts_base.specs.Limits.{most_cells}
use Rattle.ts_base.specs.Windows.{looked_at}
use Rattle.ts_base.specs.Spans.{one_span, Holds}
use Rattle.ts_automaton.specs.declared.regs.Hull.{Hull}
use Rattle.ts_automaton.specs.Body.{Body}
use Rattle.ts_automaton.specs.Typing.{is_automaton}
use Rattle.ts_automaton.specs.AutomatonRun.{answer, AreCellValues, HoldsMark}
use Rattle.ts_domain.specs.BoxSeries.{InBox, IsBox}
use Rattle.ts_glue.specs.Pairs.{Pair}
use Rattle.ts_glue.specs.Glued.{Local}
use Rattle.ts_glue.specs.Rules.{keeps_rules}
use Rattle.ts_bound.specs.HullTables.{row_of}
use Rattle.ts_bound.specs.NextRow.{RowStands}
use Rattle.ts_bound.specs.Rows.{IsRow, row_at, with_written}
use Rattle.ts_bound.specs.TermSpans.{Automata, LooksIn, IsUsable, term_span, value_span}

-- a pair that splits the automaton at each cell
pub record Splits (b : Body) (p : Pair) : Type 0 where
  pub forward : p.forward ≡ b
  pub reverse : IsTrue (is_automaton p.reverse)
  pub rules : IsTrue (keeps_rules p)
  pub local : Local p

-- what the type of a machine keeps
pub record AreAutomata (m : Automata) : Type 0 where
  pub forward : IsTrue (is_automaton m.forward)
  pub pair : IfSome m.pair (Splits m.forward)

-- the span of a box at any cell that may be used holds the answer on the cells of each series that are looked at
abbrev pub SpansHold : Type 0
SpansHold =
    (m : Automata) → AreAutomata m → HoldsMark m.forward →
    (cells : List (List ℤ)) → length cells ≤ most_cells → IsBox cells → LooksIn m cells →
    (k : ℕ) → IsUsable m k cells →
    (xs : List ℤ) → InBox xs cells → Holds (term_span m k cells) (answer m.forward (looked_at m.window xs))

-- the span of the box with one value alone at a cell is read off the whole box there
abbrev pub ValueSpansAreNarrowed : Type 0
ValueSpansAreNarrowed =
    (m : Automata) (cells : List (List ℤ)) → LooksIn m cells →
    (k : ℕ) → 1 ≤ k → k ≤ length cells → (v : ℤ) →
    term_span m k (set cells (k - 1) (v ∷ [])) ≡ value_span m k cells v

-- on a box of one series the span at the last cell is exactly the answer on the cells that are looked at
abbrev pub SpansStaySingle : Type 0
SpansStaySingle =
    (m : Automata) → AreAutomata m →
    (xs : List ℤ) → 1 ≤ length xs → length xs ≤ most_cells → AreCellValues xs →
    let cells = map (λ x. x ∷ []) xs in
    LooksIn m cells → term_span m (length xs) cells ≡ one_span (answer m.forward (looked_at m.window xs))

-- a lent row that is written with as many hulls stands in its place, and every other row stays; so do two rows
abbrev pub WrittenRowsAreSet : Type 0
WrittenRowsAreSet =
    (rows : List (List Hull)) (k : ℕ) (row : List Hull) → IsRow k rows → length row ≡ length (row_at k rows) →
    with_written rows (k - 1) row ≡ set rows (k - 1) row

abbrev pub TwoWrittenRowsAreSet : Type 0
TwoWrittenRowsAreSet =
    (rows : List (List Hull)) (k : ℕ) (first second : List Hull) → 1 ≤ k → k + 1 ≤ length rows →
    length first ≡ length (row_at k rows) → length second ≡ length (row_at (k + 1) rows) →
    with_written rows (k - 1) (first ++ second) ≡ set (set rows (k - 1) first) k second

-- each hull of the row of a cell is none or has the kinds of its state, as a row made of it needs
abbrev pub RowsStand : Type 0
RowsStand =
    (b : Body) → IsTrue (is_automaton b) → (before : List (List ℤ)) (values : List ℤ) →
    RowStands b values (row_of b before values)
