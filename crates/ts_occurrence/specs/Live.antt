-- The live starts of a search as entries: the signs before each start, and the expression that is left to read.
-- A live start has the number of its residual among those that the search has met.
use Rattle.std.specs.Prelude.{ℕ, ◌<◌, List, [], ◌∷◌, map, length, get_or, Option, None, Some, if◌then◌else◌}
use Rattle.ts_regex.specs.Shape.{Shape, Empty}
use Rattle.ts_regex.specs.Derivative.{nullable}
use Rattle.ts_pattern.specs.Entries.{Entry}
use Rattle.std.specs.List.{AllByRecursion}
use Rattle.ts_occurrence.specs.declared.live.LiveStart.{LiveStart}

abbrev pub Start : Type 0
Start = Entry ℕ Shape (Unit {0})

abbrev pub entry : ℕ → Shape → Start
entry start residual = record { mark = start; residual = residual; tag = tt }

abbrev pub entry_of : List Shape → LiveStart → Start
entry_of rs e = entry e.start (get_or rs e.residual Empty)

abbrev pub entries_of : List Shape → List LiveStart → List Start
entries_of rs es = map (λ e. entry_of rs e) es

-- the residuals of all are among those met
abbrev pub AreKnown : List Shape → List LiveStart → Type 0
AreKnown rs es = AllByRecursion (λ e. e.residual < length rs) es

-- the first start from which a match ends at the sign just read
abbrev pub first_ending : List Start → Option ℕ
first_ending [] = None
first_ending (e ∷ es) = if nullable e.residual then Some e.mark else first_ending es
