-- Rows on top of one another that are known to be of a box, in the order in which an automaton reads its cells; and
-- cells that change.
use Rattle.std.specs.Prelude.{◌≡◌, ℕ, ◌-◌, [], List, length, take, drop, get_or, Option, None, Some}
use Rattle.ts_automaton.specs.Body.{Body}
use Rattle.ts_domain.specs.Boxes.{Box}
use Rattle.ts_glue.specs.Pairs.{Pair}
use Rattle.ts_sweep.specs.Sides.{Sides}
use Rattle.ts_bound.specs.declared.gone.Change.{Change}
use Rattle.ts_bound.specs.declared.planned.Planned.{Planned}
use Rattle.ts_bound.specs.declared.reading.Direction.TheVariants.{FromLast}
use Rattle.ts_bound.specs.Gone.{AreLost}
use Rattle.ts_bound.specs.Reading.{in_order}
use Rattle.ts_bound.specs.RowStacks.{AreKept, Kept, Rows, Laid, GoOn, IsPlanned, Sight, Stack, rows_seen, seen_by, sight}

-- the rows are what is seen of those of the cells that the automaton reads first
abbrev pub AreFirst : Sight → Box → Rows → Type 0
AreFirst a cells rows = rows ≡ take (length rows) (rows_seen a cells)

-- the rows are made by the plan of the automaton; the known ones are those of the cells that it reads first, and from a
-- place on each of those that lie there is followed by its next one; what is kept of a row is right after the cells
-- before it
pub record AreRows (a : Body) (cells : Box) (s : Stack) : Type 0 where
  pub planned : IsPlanned a s.planned
  pub known : AreFirst (seen_by a s.planned) cells s.known
  pub laid : GoOn (seen_by a s.planned) cells s.laid.rows s.laid.from
  pub kept : AreKept (seen_by a s.planned) cells s.kept

-- the plan is that of the reverse automaton, where there is one
abbrev pub IsPlannedBack : Option Pair → Planned → Type 0
IsPlannedBack None p = Unit {0}
IsPlannedBack (Some m) p = IsPlanned m.reverse p

-- the rows are backward rows; a machine that can't be split has none
abbrev pub AreBehind : Option Pair → Sides → Box → Rows → Type 0
AreBehind None ends b rows = Unit {0}
AreBehind (Some p) ends b rows = AreFirst (sight p.reverse ends) (in_order FromLast b) rows

-- of the backward rows that lie there, each is followed by its next one from a place on; a machine that can't be split
-- has none
abbrev pub GoOnBehind : Option Pair → Sides → Box → Laid → Type 0
GoOnBehind None ends b l = Unit {0}
GoOnBehind (Some p) ends b l = GoOn (sight p.reverse ends) (in_order FromLast b) l.rows l.from

-- what is kept of the backward rows is right; a machine that can't be split has none
abbrev pub AreKeptBehind : Option Pair → Sides → Box → List Kept → Type 0
AreKeptBehind None ends b kept = Unit {0}
AreKeptBehind (Some p) ends b kept = AreKept (sight p.reverse ends) (in_order FromLast b) kept

-- two lists of n cells that differ in those after the first `first`, up to the first `last`, alone
pub record DifferFrom (first last n : ℕ) (cells later : Box) : Type 0 where
  pub count : length cells ≡ n
  pub count_later : length later ≡ n
  pub before : take first later ≡ take first cells
  pub behind : drop last later ≡ drop last cells

-- the cells change as the change says
pub record IsChange (c : Change) (cells later : Box) : Type 0 where
  pub differ : DifferFrom c.first c.last c.count cells later
  pub gone_first : AreLost c.gone_first (get_or cells c.first []) (get_or later c.first [])
  pub gone_last : AreLost c.gone_last (get_or cells (c.last - 1) []) (get_or later (c.last - 1) [])
