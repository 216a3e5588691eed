-- What is promised of the spans of a model's terms.
use Rattle.std.specs.Prelude.{◌≡◌, ℕ, ℤ, List, map, Some, slice_get}
use Rattle.ts_base.specs.Windows.{looked_at}
use Rattle.ts_automaton.specs.AutomatonRun.{answer}
use Rattle.ts_bound.specs.TermSpans.{Automata, automata_of}
use Rattle.ts_compile.specs.declared.program.Program.{Program}
use Rattle.ts_compile.specs.Programs.{IsProgramOf, machines_of}
use Rattle.ts_domain.specs.BoxSeries.{InBox, IsBox}
use Rattle.ts_model.specs.declared.model.Model.{Model}
use Rattle.ts_model.specs.Meets.{value_at}
use Rattle.ts_model.specs.Promise.{IsWhole}
use Rattle.ts_model.specs.ModelParts.{ModelParts}
use Rattle.ts_model.specs.Views.{model_parts}
use Rattle.ts_filter.specs.Laws.{HoldsValues, TellsSingles}
use Rattle.ts_spans.specs.Machines.{automata_in, spans_in}

-- at each cell that may be used the spans of a model's terms hold their values on each series of a box
abbrev pub SpansHoldValues : Type 0
SpansHoldValues = (m : ModelParts) → IsWhole m → HoldsValues m (spans_in m)

-- on the box of one series the spans of a model's terms are at the last cell its values alone
abbrev pub SpansTellSingles : Type 0
SpansTellSingles = (m : ModelParts) → IsWhole m → IsBox m.cells → TellsSingles m (spans_in m)

-- the machines of a model's program are those of its terms
abbrev pub MachinesAreIn : Type 0
MachinesAreIn = (p : Program) (m : Model) → IsProgramOf p m →
    map automata_of (machines_of p) ≡ automata_in (model_parts m)

-- on each series of the model's box the machine of a term answers its value, over the cells that it looks at
abbrev pub MachinesAnswer : Type 0
MachinesAnswer =
    (m : ModelParts) → IsWhole m → IsBox m.cells → (term : ℕ) (a : Automata) →
    slice_get (automata_in m) term ≡ Some a → (x : List ℤ) → InBox x m.cells →
    value_at m x term ≡ Some (answer a.forward (looked_at a.window x))
