-- Statements, drafts, models and errors without their places in memory.
use Rattle.std.specs.Prelude.{◌≡◌, ℕ, ◌+◌, ◌≤◌, List, [], ◌∷◌, map, drop, Option, Some, None, option_map, slice_get, Result, Ok, Err, String, length}
use Rattle.std.specs.Global.{Global}
use Rattle.std.specs.String.{string_bytes}
use Rattle.ts_base.specs.Limits.{most_terms}
use Rattle.ts_base.specs.declared.range.Range.{Range}
use Rattle.ts_token.specs.Text.{Cut}
use Rattle.ts_token.specs.declared.words.Word.{Word}
use Rattle.ts_pattern.specs.declared.term.Term.{Term}
use Rattle.ts_model.specs.declared.statement.Statement.{Statement}
use Rattle.ts_model.specs.declared.statement.Statement.TheVariants.{Cells as CellsLine, Domain as DomainLine, Cell as CellLine, Term as TermLine, Require as RequireLine, Objective as ObjectiveLine}
use Rattle.ts_model.specs.declared.statement.TermParts.{TermParts}
use Rattle.ts_model.specs.declared.model.Model.{Model}
use Rattle.ts_model.specs.declared.model.ModelTerm.{ModelTerm}
use Rattle.ts_model.specs.declared.model.Window.{Window}
use Rattle.ts_model.specs.declared.model.Need.{Need}
use Rattle.ts_model.specs.declared.draft.Draft.{Draft}
use Rattle.ts_model.specs.declared.error.ModelKind.{ModelKind}
use Rattle.ts_model.specs.declared.error.LineStop.{LineStop}
use Rattle.ts_model.specs.declared.error.LineStop.TheVariants.{Bad, NoMemory}
use Rattle.ts_model.specs.declared.error.ModelStop.{ModelStop}
use Rattle.ts_model.specs.declared.error.ModelStop.TheVariants.{Refused, Memory}
use Rattle.ts_model.specs.Statement.{Meaning, SaysCells, SaysDomain, SaysCell, SaysTerm, SaysRequire, SaysObjective}
use Rattle.ts_model.specs.ModelParts.{ModelParts, StatedTerm, stated_term}
use Rattle.ts_model.specs.Cells.{domains, IsKept}
use Rattle.ts_model.specs.ModelReading.{IsModel, IsRefused}

abbrev pub texts : List Word → List (List ℕ)
texts ws = map (λ w. w.text.now) ws

abbrev pub meaning_of : Statement → Meaning
meaning_of (CellsLine n) = SaysCells n
meaning_of (DomainLine rs) = SaysDomain rs.items.items
meaning_of (CellLine k rs) = SaysCell k rs.items.items
meaning_of (TermLine name tail parts) = SaysTerm name.now tail parts
meaning_of (RequireLine name op bound) = SaysRequire name.now op bound
meaning_of (ObjectiveLine name) = SaysObjective name.now

abbrev pub parts_of : Term → TermParts
parts_of t = record { aggregator = t.aggregator; feature = t.feature; pattern = t.pattern }

-- a window as the cells that it names
abbrev pub range_in : Window → Range
range_in w = record { first = w.first; last = w.last }

abbrev pub window_given : Option (Option Window) → Option Range
window_given None = None
window_given (Some w) = option_map range_in w

-- the window at a place, counted from 0; none where no window is listed there
abbrev pub window_at : List (Option Window) → ℕ → Option Range
window_at ws k = window_given (slice_get ws k)

abbrev pub model_term : Term → Option Range → ModelTerm
model_term t window = record { term = t; window = window }

-- terms by name, each with its window, which stands at its place in another list
abbrev pub with_windows : List (String Global × Term) → List (Option Window) → List (String Global × ModelTerm)
with_windows [] ws = []
with_windows (e ∷ es) ws = (e.0, model_term e.1 (window_at ws 0)) ∷ with_windows es (drop 1 ws)

-- the terms of a model by name, with their windows
abbrev pub terms_in : Model → List (String Global × ModelTerm)
terms_in m = with_windows m.terms.entries m.windows.items

abbrev pub stated_of : ModelTerm → StatedTerm
stated_of t = stated_term (parts_of t.term) t.window

abbrev pub term_of : String Global × ModelTerm → List ℕ × StatedTerm
term_of e = (string_bytes e.0, stated_of e.1)

-- a model as lists
abbrev pub model_parts : Model → ModelParts
model_parts m = record {
  cells = m.cells.items;
  terms = map term_of (terms_in m);
  requirements = m.requirements.items;
  objective = m.objective;
}

abbrev pub draft_parts : Draft → ModelParts
draft_parts d = record {
  cells = domains d.cells;
  terms = map term_of (with_windows d.terms.entries d.windows.items);
  requirements = d.requirements.items;
  objective = d.objective;
}

-- the result is what reading gives, unless memory ran out
abbrev pub Gives : {X Y : Type 0} → (X → Y) → Result X LineStop → Result Y ModelKind → Type 0
Gives view (Ok x) read = read ≡ Ok (view x)
Gives view (Err (Bad k)) read = read ≡ Err k
Gives view (Err NoMemory) read = Unit {0}

-- a model, or a line with its kind, unless memory ran out
abbrev pub Reads : Result Model ModelStop → Result ModelParts (ℕ × ModelKind) → Type 0
Reads (Ok m) read = read ≡ Ok (model_parts m)
Reads (Err (Refused line kind)) read = read ≡ Err (line, kind)
Reads (Err Memory) read = Unit {0}

-- what is added to a draft makes it state this, or is a line with its kind, unless memory ran out
abbrev pub Adds : ModelParts → Result (Unit {0}) ModelStop → Result ModelParts (ℕ × ModelKind) → Type 0
Adds after (Ok _) read = read ≡ Ok after
Adds after (Err (Refused line kind)) read = read ≡ Err (line, kind)
Adds after (Err Memory) read = Unit {0}

-- what was told of a text is its reading, unless memory ran out
abbrev pub Tells : Need → Cut → Result Model ModelStop → Type 0
Tells need c (Ok m) = IsModel need c (model_parts m)
Tells need c (Err (Refused line kind)) = IsRefused need c line kind
Tells need c (Err Memory) = Unit {0}

-- what is kept beside a draft
pub record IsSound (d : Draft) : Type 0 where
  pub cells : IsKept d.cells
  pub terms : length d.terms.entries ≤ most_terms
  pub windows : length d.windows.items ≡ length d.terms.entries

-- a draft after one more line, sound and with the same limits
pub record Follows (before after : Draft) : Type 0 where
  pub sound : IsSound after
  pub limited : after.cells.limited ≡ before.cells.limited
  pub turn : after.cells.turn ≤ before.cells.turn + 1

abbrev pub at_line : ℕ → LineStop → ModelStop
at_line line (Bad kind) = Refused line kind
at_line line NoMemory = Memory
