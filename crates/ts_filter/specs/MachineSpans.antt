-- The spans of a model's terms, as their machines have them.
use Rattle.std.specs.Prelude.{◌≡◌, ◌↔◌, ◌≤◌, ℕ, ℤ, Bool, false, List, Contains, length, Option, Some, None, is_some}
use Rattle.std.specs.Prelude.{slice_get}
use Rattle.ts_base.specs.declared.ext.Ext.{Ext}
use Rattle.ts_base.specs.declared.ext.Ext.TheVariants.{NegInf, PosInf}
use Rattle.ts_base.specs.declared.goal.Goal.{Goal}
use Rattle.ts_base.specs.declared.span.Span.{Span}
use Rattle.ts_base.specs.Spans.{Holds, one_span}
use Rattle.ts_base.specs.Windows.{looked_at}
use Rattle.ts_automaton.specs.AutomatonRun.{answer, HoldsMark}
use Rattle.ts_domain.specs.BoxSeries.{InBox, IsBox}
use Rattle.ts_model.specs.declared.model.Require.{Require}
use Rattle.ts_model.specs.Meets.{value_at}
use Rattle.ts_model.specs.Promise.{IsWhole}
use Rattle.ts_model.specs.ModelParts.{ModelParts}
use Rattle.ts_bound.specs.TermSpans.{Automata, LooksIn, term_span, IsUsable as IsUsableOf}
use Rattle.ts_bound.specs.Laws.{AreAutomata}
use Rattle.ts_filter.specs.declared.bar.Bar.{Bar}
use Rattle.ts_filter.specs.Boxes.{Box, values_at, only, box_of, IsPart}
use Rattle.ts_filter.specs.Excluded.{Refutes, Cuts}
use Rattle.ts_filter.specs.Laws.{HoldsValues, TellsSingles}
use Rattle.ts_filter.specs.RefutedWorseDrop.{Spans, IsUsable, IsRequirement, IsRefuted, IsCut, IsDrop}

-- all numbers
abbrev pub every_number : Span
every_number = record { lo = NegInf; hi = PosInf }

abbrev pub is_split : Option Automata → Bool
is_split None = false
is_split (Some a) = is_some a.pair

abbrev pub span_of : Option Automata → ℕ → Box → Span
span_of None p b = every_number
span_of (Some a) p b = term_span a p b

-- the spans of the machines of the terms, in their order; of a term without one, which no model has, nothing is known
abbrev pub spans_of : List Automata → Spans
spans_of machines = record {
  reversible = λ term. is_split (slice_get machines term);
  span_at = λ term p b. span_of (slice_get machines term) p b;
}

-- what is known of a term is what its machine shows
pub record AreOfMachine (machines : List Automata) (term : ℕ) (a : Automata) : Type 0 where
  pub span : (p : ℕ) (b : Box) → (spans_of machines).span_at term p b ≡ term_span a p b
  pub usable : (p : ℕ) (b : Box) → IsUsable (spans_of machines) term p b ↔ IsUsableOf a p b

abbrev pub SpansAreOfMachines : Type 0
SpansAreOfMachines =
    (machines : List Automata) (term : ℕ) (a : Automata) → slice_get machines term ≡ Some a →
    AreOfMachine machines term a

-- the span of the machine at a usable cell holds the term's value on each series of the box
abbrev pub HoldsTerm : ModelParts → ℕ → Automata → Type 0
HoldsTerm m term a =
    (p : ℕ) (b : Box) (x : List ℤ) (v : Ext) → IsPart b m.cells → IsUsableOf a p b → InBox x b →
    value_at m x term ≡ Some v → Holds (term_span a p b) v

-- on the box of one series, at the last cell, the span of the machine holds the term's value alone
abbrev pub TellsTerm : ModelParts → ℕ → Automata → Type 0
TellsTerm m term a =
    (x : List ℤ) (v : Ext) → InBox x m.cells → value_at m x term ≡ Some v →
    term_span a (length x) (box_of x) ≡ one_span v

-- what holds of each machine holds of the spans
abbrev pub MachinesHold : Type 0
MachinesHold =
    (m : ModelParts) (machines : List Automata) →
    ((term : ℕ) (a : Automata) → slice_get machines term ≡ Some a → HoldsTerm m term a) →
    HoldsValues m (spans_of machines)

abbrev pub MachinesTell : Type 0
MachinesTell =
    (m : ModelParts) (machines : List Automata) → length machines ≡ length m.terms →
    ((term : ℕ) (a : Automata) → slice_get machines term ≡ Some a → TellsTerm m term a) →
    TellsSingles m (spans_of machines)

-- what a call shows of the machine of a requirement's term, or of the objective, at a cell that may be used, is what is
-- defined of the spans of all
pub record TellOf (m : ModelParts) (requirements : List Require) (s : Spans) (term : ℕ) (a : Automata) : Type 0 where
  pub refuted : (j p : ℕ) (b : Box) (r : Require) → IsRequirement requirements j r → r.term ≡ term → IsUsableOf a p b →
      Refutes r.op r.bound (term_span a p b) ↔ IsRefuted requirements s j p b
  pub cut : (goal : Goal) (p : ℕ) (b : Box) (bar : Bar) → m.objective ≡ Some term → IsUsableOf a p b →
      Cuts goal bar (term_span a p b) ↔ IsCut m s goal p b bar
  pub drop : (j k : ℕ) (v : ℤ) (b : Box) (r : Require) → IsRequirement requirements j r → r.term ≡ term →
      IsUsableOf a k b → 2 ≤ length (values_at k b) → Contains (values_at k b) v →
      Refutes r.op r.bound (term_span a k (only k v b)) ↔ IsDrop requirements s k v j b

abbrev pub CallsTell : Type 0
CallsTell =
    (m : ModelParts) (requirements : List Require) (machines : List Automata) (term : ℕ) (a : Automata) →
    slice_get machines term ≡ Some a → TellOf m requirements (spans_of machines) term a

-- a machine that looks at cells of the model's box, and whose answer on these of each of its series is the term's value
pub record AnswersTerm (m : ModelParts) (term : ℕ) (a : Automata) : Type 0 where
  pub machine : AreAutomata a
  pub marked : HoldsMark a.forward
  pub looks : LooksIn a m.cells
  pub answers : (x : List ℤ) (v : Ext) → InBox x m.cells → value_at m x term ≡ Some v →
      answer a.forward (looked_at a.window x) ≡ v

-- there is a machine that answers each term, in their order
pub record AnswerTerms (m : ModelParts) (machines : List Automata) : Type 0 where
  pub count : length machines ≡ length m.terms
  pub each : (term : ℕ) (a : Automata) → slice_get machines term ≡ Some a → AnswersTerm m term a

-- the spans of machines that answer their terms hold the values of the terms, and that value alone on a single series
abbrev pub AnswersAreEnough : Type 0
AnswersAreEnough =
    (m : ModelParts) (machines : List Automata) → IsBox m.cells → IsWhole m → AnswerTerms m machines →
    HoldsValues m (spans_of machines) × TellsSingles m (spans_of machines)
