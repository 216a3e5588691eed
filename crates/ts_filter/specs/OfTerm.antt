-- The machine of a term among those of all terms.
use Rattle.std.specs.Prelude.{◌≡◌, ℕ, List, Some, slice_get}
use Rattle.ts_bound.specs.TermSpans.{Automata}

-- something holds of the term's machine
abbrev pub OfTerm : List Automata → ℕ → (Automata → Type 0) → Type 0
OfTerm machines term Is = (a : Automata) → slice_get machines term ≡ Some a → Is a
