-- What is known of the hulls of a machine on a box: of the cells that it looks at, the rows of the first ones forward,
-- of the last ones backward.
use Rattle.std.specs.Prelude.{◌≡◌, ◌<◌, ◌≤◌, ℕ, ◌-◌, List, [], Contains, length, Option, None, Some}
use Rattle.ts_base.specs.Windows.{looked_at}
use Rattle.ts_bound.specs.Looks.{place_in}
use Rattle.ts_bound.specs.Laws.{AreAutomata}
use Rattle.ts_bound.specs.TermSpans.{Automata, LooksIn}
use Rattle.ts_glue.specs.Pairs.{Pair}
use Rattle.ts_meet.specs.declared.joints.Joints.{Joints}
use Rattle.ts_meet.specs.Joints.{AreJoints}
use Rattle.ts_model.specs.declared.model.Require.{Require}
use Rattle.ts_bound.specs.declared.reading.Direction.TheVariants.{FromFirst}
use Rattle.ts_bound.specs.AnyRows.{form_sides}
use Rattle.ts_bound.specs.declared.any_row.Form.{Form}
use Rattle.ts_bound.specs.BoxRows.{AreBehind, AreFirst, AreKeptBehind, GoOnBehind, IsPlannedBack}
use Rattle.ts_bound.specs.Reading.{in_order}
use Rattle.ts_bound.specs.declared.planned.Planned.{Planned}
use Rattle.ts_sweep.specs.Sides.{Sides}
use Rattle.ts_bound.specs.RowStacks.{AreKept, Kept, Rows, Laid, GoOn, IsPlanned, Stack, no_rows, sight}
use Rattle.ts_filter.specs.Boxes.{Box}
use Rattle.ts_filter.specs.Drops.{IsFirstOf}
use Rattle.ts_filter.specs.TermDrops.{IsQuiet, IsTermDrop}

-- the rows of a machine: forward ones, and backward ones, that of the last cell first; and with them those that aren't
-- known to be of the present box, and what is kept of each; the form of their hulls; and requirements by which no drop
-- is possible
pub record KnownRows : Type 0 where
  pub machine : Automata
  pub form : Form
  pub ahead : Rows
  pub behind : Rows
  pub laid_ahead : Laid
  pub laid_behind : Laid
  pub kept_ahead : List Kept
  pub kept_behind : List Kept
  pub quiet : List Require

-- the ends that are kept of the hulls
abbrev pub ends_of : KnownRows → Sides
ends_of t = form_sides t.form

-- it is known how the automata are glued, where there are two
abbrev pub HasJoints : Option Pair → Option Joints → Type 0
HasJoints None joints = Unit {0}
HasJoints (Some p) None = ⊥
HasJoints (Some p) (Some joints) = AreJoints p joints

-- the automata of a machine keep their rules; its rows are made by their plans, in one form, and meet as they are glued
pub record AreTables (a : Automata) (ahead behind : Planned) (joints : Option Joints) : Type 0 where
  pub whole : AreAutomata a
  pub forward : IsPlanned a.forward ahead
  pub reverse : IsPlannedBack a.pair behind
  pub form : behind.form ≡ ahead.form
  pub meets : HasJoints a.pair joints

-- no rows are known, nor others kept, and no requirements by which no drop is possible
pub record AreEmpty (ahead behind : Stack) (quiet : List Require) : Type 0 where
  pub none_ahead : ahead ≡ no_rows ahead.planned
  pub none_behind : behind ≡ no_rows behind.planned
  pub none_quiet : quiet ≡ []

-- the rows of a machine are rows of these cells, and the requirements that are kept with them drop no value there
pub record AreRowsOf (cells : Box) (t : KnownRows) : Type 0 where
  pub ahead : AreFirst (sight t.machine.forward (ends_of t)) (in_order FromFirst cells) t.ahead
  pub behind : AreBehind t.machine.pair (ends_of t) cells t.behind
  pub laid_ahead : GoOn (sight t.machine.forward (ends_of t))
      (in_order FromFirst cells) t.laid_ahead.rows t.laid_ahead.from
  pub laid_behind : GoOnBehind t.machine.pair (ends_of t) cells t.laid_behind
  pub kept_ahead : AreKept (sight t.machine.forward (ends_of t)) (in_order FromFirst cells) t.kept_ahead
  pub kept_behind : AreKeptBehind t.machine.pair (ends_of t) cells t.kept_behind
  pub quiet : (r : Require) → Contains t.quiet r → IsQuiet t.machine cells r

-- the rows are those of the box, of the cells that the machine looks at
abbrev pub AreKnown : Box → KnownRows → Type 0
AreKnown b t = AreRowsOf (looked_at t.machine.window b) t

-- the machine is the one from before, and the rows are again those of the box
pub record StillKnown (b : Box) (old new : KnownRows) : Type 0 where
  pub machine : new.machine ≡ old.machine
  pub known : AreKnown b new

-- what was known of a box is still known, wherever no drop is possible by the requirements of the term
abbrev pub KnownWhereNone : List Require → ℕ → KnownRows → KnownRows → Type 0
KnownWhereNone requirements term old new =
    (b : Box) → LooksIn old.machine b → IsFirstOf (IsTermDrop requirements term old.machine b) None → AreKnown b old →
    StillKnown b old new

-- the rows of cell k of these cells are known; of the last cell the forward one is enough
pub record HasRowsAt (k : ℕ) (cells : Box) (t : KnownRows) : Type 0 where
  pub ahead : k ≤ length t.ahead
  pub behind : k < length cells → length cells - k < length t.behind

-- the rows of cell k of the box are known, a cell that the machine looks at
abbrev pub HasRows : ℕ → Box → KnownRows → Type 0
HasRows k b t = HasRowsAt (place_in t.machine.window k) (looked_at t.machine.window b) t
