-- What is known of the values that a series may have at each place.
use Rattle.std.specs.Prelude.{◌≡◌, ◌<◌, ◌≤◌, ℕ, ℤ, ◌≤ℤ◌, ◌<ℤ◌, true, List, [], Contains, IsTrue, Some, get_or, length, set, slice_get}
use Rattle.ts_automaton.specs.Body.{Body}
use Rattle.ts_automaton.specs.AutomatonRun.{answer}
use Rattle.ts_domain.specs.BoxSeries.{IsBox}
use Rattle.ts_glue.specs.declared.machine.Machine.{Machine}
use Rattle.ts_glue.specs.Machines.{forward_of, pair_of}
use Rattle.ts_glue.specs.Pairs.{Pair}
use Rattle.ts_model.specs.declared.model.Require.{Require}
use Rattle.ts_model.specs.Compares.{compares}
use Rattle.ts_witness.specs.Letters.{ReadsLetters}
use Rattle.ts_witness.specs.Witnesses.{AreSides, value_between}
use Rattle.ts_witness.specs.declared.spared.Known.{Known}
use Rattle.ts_witness.specs.declared.spared.Spared.{Spared}

-- the series with the value v at the place i, counted from 0, meets the requirement
abbrev pub MeetsWith : Body → Require → List ℤ → ℕ → ℤ → Type 0
MeetsWith b r y i v = compares r.op r.bound (answer b (set y i v)) ≡ true

-- the series with u at the place i meets the requirement, and the automaton's steps are by letters alone
abbrev pub IsLike : Body → Require → List ℤ → ℕ → ℤ → Type 0
IsLike b r y i u = ReadsLetters b × MeetsWith b r y i u

-- no number lies between the ends
abbrev pub IsEmpty : Known → Type 0
IsEmpty e = e.greatest <ℤ e.least

-- where the runs have these sides beside the place i of a series of n cells, it meets the requirement with each value
-- of the cell between the ends; of a machine that can't be split nothing is said
abbrev pub IsKnown : Machine → Require → ℕ → List ℤ → ℕ → Known → Type 0
IsKnown m r n values i e =
    (p : Pair) → pair_of m ≡ Some p → (v : ℤ) → Contains values v → e.least ≤ℤ v → v ≤ℤ e.greatest →
    compares r.op r.bound (value_between p n i e.sides v) ≡ true

-- what is known of each cell holds, and so does what is said of the machine's steps
pub record IsSpared (m : Machine) (r : Require) (s : Spared) : Type 0 where
  pub box : IsBox s.cells.now
  pub count : length s.each.items ≡ length s.cells.now
  pub each : (i : ℕ) (e : Known) → slice_get s.each.items i ≡ Some e →
      IsKnown m r (length s.cells.now) (get_or s.cells.now i []) i e
  pub letters : IsTrue s.letters → ReadsLetters (forward_of m)

-- no place was last seen later than now; those that were seen now have that beside them on the series, as long as
-- the time doesn't stand still
pub record AreBeside (m : Machine) (y : List ℤ) (s : Spared) : Type 0 where
  pub past : (i : ℕ) (e : Known) → slice_get s.each.items i ≡ Some e → e.time ≤ s.time
  pub now : (i : ℕ) (e : Known) → slice_get s.each.items i ≡ Some e → e.time ≡ s.time → s.time < 18446744073709551615 →
      AreSides m y i e.sides
