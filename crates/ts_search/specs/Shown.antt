-- Witnesses of a problem's requirements, and the box that their series lie in.
use Rattle.std.specs.Prelude.{◌≡◌, ℕ, ◌-◌, ◌≤◌, ◌≤ℤ◌, ℤ, Bool, false, true, List, [], Contains, IsSome, IsTrue, Some, get_or, length}
use Rattle.std.specs.Prelude.{option_map, set, slice_get, unwrap_or}
use Rattle.ts_automaton.specs.AutomatonRun.{AreCellValues}
use Rattle.ts_base.specs.Windows.{looked_at}
use Rattle.ts_bound.specs.Looks.{count_looked, is_looked, place_in}
use Rattle.ts_bound.specs.TermSpans.{Automata, automata_of}
use Rattle.ts_domain.specs.declared.interval.Interval.{Interval}
use Rattle.ts_domain.specs.BoxSeries.{InBox}
use Rattle.ts_filter.specs.Boxes.{Box, IsPart}
use Rattle.ts_filter.specs.KeptCells.{AreKept, AreSized}
use Rattle.ts_filter.specs.RefutedWorseDrop.{IsRequirement, Spans}
use Rattle.ts_glue.specs.Machines.{window_of}
use Rattle.ts_model.specs.declared.model.Require.{Require}
use Rattle.ts_model.specs.Views.{model_parts}
use Rattle.ts_spans.specs.Machines.{automata_in}
use Rattle.ts_witness.specs.KnownValues.{AreBeside, IsSpared}
use Rattle.ts_witness.specs.Laws.{IsAlive}
use Rattle.ts_witness.specs.Witnesses.{IsWitness, series_of}
use Rattle.ts_search.specs.LineOf.{last, requirements}
use Rattle.ts_search.specs.Posed.{IsPosed}
use Rattle.ts_search.specs.Views.{search_of}
use Rattle.ts_search.specs.declared.marked.Looked.{Looked}
use Rattle.ts_search.specs.declared.problem.Problem.{Problem}
use Rattle.ts_search.specs.declared.shown.Shown.{Shown}
use Rattle.ts_search.specs.declared.witnesses.Witnesses.{Witnesses}

-- one of the values stands at the place i, counted from 0, and the others as before
abbrev pub Seats : List ℤ → ℕ → List ℤ → List ℤ → Type 0
Seats old i values new = (v : ℤ) × Contains values v × (new ≡ set old i v)

-- the witness is one of the machine, of values that cells may have; what is known of other values in its cells holds;
-- where its series is known to meet the requirement, no box with it refutes that
pub record IsHeld (r : Require) (s : Shown) : Type 0 where
  pub witness : IsWitness s.machine.now s.witness
  pub cells : AreCellValues (series_of s.witness)
  pub spared : IsSpared s.machine.now r s.spared
  pub beside : AreBeside s.machine.now (series_of s.witness) s.spared
  pub alive : IsTrue s.met → IsAlive (automata_of s.machine.now) r (series_of s.witness)

-- each witness stands in this relation to the requirement at its place
abbrev pub OfEach : Problem → Witnesses → (Require → Shown → Type 0) → Type 0
OfEach q w Is =
    (i : ℕ) (s : Shown) (r : Require) → slice_get w.each.items i ≡ Some s →
    slice_get q.model.now.requirements.items i ≡ Some r → Is r s

-- the least and the greatest of these values
pub record IsEnds (values : List ℤ) (e : Interval) : Type 0 where
  pub low : Contains values e.low
  pub all : (v : ℤ) → Contains values v → (e.low ≤ℤ v) × (v ≤ℤ e.high)

-- each interval has the least and the greatest value of its domain
abbrev pub AreEnds : Box → List Interval → Type 0
AreEnds b ends = (i : ℕ) (e : Interval) → slice_get ends i ≡ Some e → IsEnds (get_or b i []) e

-- each witness is of the machine of the requirement's term, over the model's cells that it looks at; what is marked
-- fits the model, and there are ends for each cell
pub record AreHeld (q : Problem) (w : Witnesses) : Type 0 where
  pub few : length w.each.items ≤ requirements (search_of q)
  pub machine : OfEach q w
      (λ r s. slice_get (automata_in (model_parts q.model.now)) r.term ≡ Some (automata_of s.machine.now))
  pub each : OfEach q w IsHeld
  pub count : OfEach q w
      (λ r s. length (series_of s.witness) ≡ count_looked (window_of s.machine.now) (last (search_of q)))
  pub domains : OfEach q w
      (λ r s. s.spared.cells.now ≡ looked_at (window_of s.machine.now) (search_of q).model.cells)
  pub sized : AreSized (length q.model.now.terms.entries) (last (search_of q)) w.kept
  pub ends : length w.ends.items ≡ last (search_of q)

-- the witnesses belong to the problem, and the series of each lies in the box, in the cells that its machine looks at
pub record AreShown (q : Problem) (w : Witnesses) (b : Box) : Type 0 where
  pub held : AreHeld q w
  pub inside : OfEach q w (λ r s. InBox (series_of s.witness) (looked_at (window_of s.machine.now) b))

-- the witness of requirement j, counted from 1, is known to meet it
abbrev pub is_shown : Witnesses → ℕ → Bool
is_shown w j = unwrap_or (option_map (λ (s : Shown). s.met) (slice_get w.each.items (j - 1))) false

-- each series is one of the box, what is marked of terms and cells holds there, and its domains have these ends
pub record AreMarked (q : Problem) (w : Witnesses) (b : Box) : Type 0 where
  pub shown : AreShown q w b
  pub marks : AreKept q.model.now.requirements.items (search_of q).spans b w.kept
  pub ends : AreEnds b w.ends.items

-- the requirement at the place i, counted from 0, is on the term
pub record IsOn (q : Problem) (term i : ℕ) : Type 0 where
  pub require : Require
  pub there : slice_get q.model.now.requirements.items i ≡ Some require
  pub on : require.term ≡ term

-- each requirement on the term is known to be met
abbrev pub AreMet : Problem → Witnesses → ℕ → Type 0
AreMet q w term =
    (j : ℕ) (r : Require) → IsRequirement q.model.now.requirements.items j r → r.term ≡ term → is_shown w j ≡ true

-- the machine of the term can be split, and looks at the cell, which has this place there
abbrev pub CanSpare : Problem → Looked → Type 0
CanSpare q at =
    (a : Automata) → slice_get (automata_in (model_parts q.model.now)) at.term ≡ Some a →
    IsSome a.pair × (is_looked a.window at.cell ≡ true) × (place_in a.window at.cell ≡ at.place)

-- the witnesses are those of a problem, on a part of its box, with these requirements and spans
pub record Knows (requirements : List Require) (s : Spans) (b : Box) (w : Witnesses) : Type 0 where
  pub problem : Problem
  pub posed : IsPosed problem
  pub part : IsPart b (search_of problem).model.cells
  pub shown : AreShown problem w b
  pub same : requirements ≡ problem.model.now.requirements.items
  pub spans : s ≡ (search_of problem).spans
