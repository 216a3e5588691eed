-- What contracts see of the tables of all terms.
use Rattle.std.specs.Prelude.{ℕ, List, [], ◌∷◌, ◌++◌, Option, None, Some, map}
use Rattle.std.specs.List.{All}
use Rattle.ts_bound.specs.TermSpans.{Automata}
use Rattle.ts_filter.specs.Boxes.{Box}
use Rattle.ts_filter.specs.KnownRows.{KnownRows, AreKnown}
use Rattle.ts_model.specs.declared.model.Require.{Require}

-- the machines of the terms, in their order, and the box whose rows they have; of no box yet, that without cells
pub record Tables : Type 0 where
  pub machines : List Automata
  pub cells : Box

abbrev pub machines_of : List KnownRows → List Automata
machines_of ts = map (λ (t : KnownRows). t.machine) ts

-- what is known of each machine is known of this box
abbrev pub AreRowsOfEach : Box → List KnownRows → Type 0
AreRowsOfEach b ts = All (AreKnown b) ts

-- the terms that the requirements name, and behind them that of the objective, if there is one
abbrev pub named_terms : List Require → Option ℕ → List ℕ
named_terms rs None = map (λ r. r.term) rs
named_terms rs (Some term) = map (λ r. r.term) rs ++ term ∷ []
