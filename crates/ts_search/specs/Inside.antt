-- Which marks and requirements show that what excludes a box excludes each box inside it.
use Rattle.std.specs.Prelude.{◌≡◌, ℕ, Some, slice_get}
use Rattle.ts_automaton.specs.declared.state.Mark.TheVariants.{Same}
use Rattle.ts_bound.specs.TermSpans.{Automata}
use Rattle.ts_model.specs.declared.model.Require.{Require}
use Rattle.ts_model.specs.ModelParts.{ModelParts}
use Rattle.ts_spans.specs.Machines.{automata_in}
use Rattle.ts_search.specs.Leaps.{ShowsInside}

-- the mark of the term's automaton changes no value
abbrev pub LeavesValues : ModelParts → ℕ → Type 0
LeavesValues m term = (a : Automata) → slice_get (automata_in m) term ≡ Some a → a.forward.mark ≡ Same

-- under the mark of its term's automaton, a span that refutes a requirement of the model refutes it on each box inside
abbrev pub AllShowInside : ModelParts → Type 0
AllShowInside m =
    (i : ℕ) (r : Require) (a : Automata) → slice_get m.requirements i ≡ Some r →
    slice_get (automata_in m) r.term ≡ Some a → ShowsInside a.forward.mark r.op r.bound
