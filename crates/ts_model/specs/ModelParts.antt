-- What lines state together, and the kinds of bad lines from `nocells` on: one test for each, of what a line says
-- after the lines that state m.
use Rattle.std.specs.Prelude.{ℕ, ◌≡◌, ◌<◌, ◌-◌, ℤ, pos, negsuc, neg_ℤ, int_le, int_lt, Bool, true, false, not, ◌&&◌, List, [], ◌∷◌, ◌++◌, length, map, filter, set, replicate, if◌then◌else◌, nat_le, nat_lt, Option, Some, None, Result, Ok, Err, is_some, is_none, option_map, unwrap_or}
use Rattle.std.specs.List.{list_any, position, sum_by}
use Rattle.std.specs.Str.{bytes_eq}
use Rattle.ts_base.specs.declared.ext.Ext.{Ext}
use Rattle.ts_base.specs.declared.ext.Ext.TheVariants.{NegInf, Int, PosInf}
use Rattle.ts_base.specs.declared.range.Range.{Range}
use Rattle.ts_base.specs.Limits.{greatest_bound, greatest_value, most_cells, most_domain_values, most_requirements, most_terms}
use Rattle.ts_domain.specs.declared.interval.Interval.{Interval}
use Rattle.ts_domain.specs.Values.{values_between}
use Rattle.ts_pattern.specs.declared.name.Aggregator.{Aggregator}
use Rattle.ts_pattern.specs.declared.name.Aggregator.TheVariants.{Sum}
use Rattle.ts_pattern.specs.declared.name.Feature.{Feature}
use Rattle.ts_pattern.specs.declared.name.Feature.TheVariants.{One}
use Rattle.ts_pattern.specs.declared.name.PatternId.{PatternId}
use Rattle.ts_pattern.specs.declared.name.PatternId.TheVariants.{Increasing}
use Rattle.ts_pattern.specs.Names.{is_pair}
use Rattle.ts_model.specs.declared.model.Op.{Op}
use Rattle.ts_model.specs.declared.model.Require.{Require}
use Rattle.ts_model.specs.declared.statement.TermParts.{TermParts}
use Rattle.ts_model.specs.declared.error.ModelKind.{ModelKind}
use Rattle.ts_model.specs.declared.error.ModelKind.TheVariants.{NoCells, CellsTwice, CellRange, Empty, UnknownName, BadPair, UnknownTerm, TermTwice, ObjectiveTwice, Limit}
use Rattle.ts_model.specs.Statement.{Meaning, SaysCells, SaysDomain, SaysCell, SaysTerm, SaysRequire, SaysObjective}

abbrev pub is_between : ℤ → ℤ → ℤ → Bool
is_between low x high = int_le low x && int_le x high

-- the numbers from -1,000,000 to 1,000,000 that some range has, in rising order
unfoldable pub union_of : List Interval → List ℤ
union_of ranges =
    filter (λ v. list_any (λ r. is_between r.low v r.high) ranges)
    (values_between (neg_ℤ greatest_value) greatest_value)

-- a term that stands in a model: what its three names say, and the cells that it looks at, where these aren't all
pub record StatedTerm : Type 0 where
  pub aggregator : Aggregator
  pub feature : Feature
  pub pattern : PatternId
  pub window : Option Range

abbrev pub stated_term : TermParts → Option Range → StatedTerm
stated_term parts window =
    record { aggregator = parts.aggregator; feature = parts.feature; pattern = parts.pattern; window = window }

-- what stands in a model: the numbers of each cell in rising order (no cells before the `cells` line), the terms by
-- name, and the number of the objective's term
pub record ModelParts : Type 0 where
  pub cells : List (List ℤ)
  pub terms : List (List ℕ × StatedTerm)
  pub requirements : List Require
  pub objective : Option ℕ

abbrev pub nothing : ModelParts
nothing = record { cells = []; terms = []; requirements = []; objective = None }

-- the place of the term with this name
abbrev pub term_at : List ℕ → List (List ℕ × StatedTerm) → Option ℕ
term_at name terms = position (λ t. bytes_eq name t.0) terms

-- the number as a count; 0 where it is negative
abbrev pub count_of : ℤ → ℕ
count_of (pos n) = n
count_of (negsuc n) = 0

-- the cells from the first number to the last one
abbrev pub cells_between : Interval → Range
cells_between r = record { first = count_of r.low; last = count_of r.high }

-- of count cells, this one stands at the place
pub record IsPlace (cell : ℤ) (count place : ℕ) : Type 0 where
  pub within : is_between (pos 1) cell (pos count) ≡ true
  pub place_is : count_of cell - 1 ≡ place
  pub there : place < count

-- the domain of a cell that no line sets: 0 to 9
abbrev pub digits : List Interval
digits = record { low = pos 0; high = pos 9 } ∷ []

-- what stands in for the parts of a term with an unknown name, which no model has
abbrev pub unused_parts : TermParts
unused_parts = record { aggregator = Sum; feature = One; pattern = Increasing }

-- the term of a tail and three names
abbrev pub term_said : Option Interval → Option TermParts → StatedTerm
term_said tail parts = stated_term (unwrap_or parts unused_parts) (option_map cells_between tail)

-- a requirement of the term at this place, which a line of which no kind holds has
abbrev pub requirement : Option ℕ → Op → Ext → Require
requirement place op bound = record { term = unwrap_or place 0; op = op; bound = bound }

-- what is stated with one more line, of which no kind holds
abbrev pub with_meaning : ModelParts → Meaning → ModelParts
with_meaning m (SaysCells n) = record m { cells = replicate (count_of n) (union_of digits) }
with_meaning m (SaysDomain rs) = record m { cells = map (λ _. union_of rs) m.cells }
with_meaning m (SaysCell k rs) = record m { cells = set m.cells (count_of k - 1) (union_of rs) }
with_meaning m (SaysTerm name tail parts) = record m { terms = m.terms ++ (name, term_said tail parts) ∷ [] }
with_meaning m (SaysRequire name op bound) =
    record m { requirements = m.requirements ++ requirement (term_at name m.terms) op bound ∷ [] }
with_meaning m (SaysObjective name) = record m { objective = term_at name m.terms }

abbrev pub is_cells : Meaning → Bool
is_cells (SaysCells n) = true
is_cells _ = false

abbrev pub has_cells : ModelParts → Bool
has_cells m = nat_lt 0 (length m.cells)

abbrev pub no_cells : ModelParts → Meaning → Bool
no_cells m s = not (is_cells s) && not (has_cells m)

abbrev pub cells_twice : ModelParts → Meaning → Bool
cells_twice m s = is_cells s && has_cells m

-- an end of the range is none of count cells
abbrev pub is_beyond : ℕ → Interval → Bool
is_beyond count r = not (is_between (pos 1) r.low (pos count) && is_between (pos 1) r.high (pos count))

abbrev pub looks_beyond : ℕ → Option Interval → Bool
looks_beyond count None = false
looks_beyond count (Some r) = is_beyond count r

abbrev pub cell_range : ModelParts → Meaning → Bool
cell_range m (SaysCells n) = not (is_between (pos 1) n (pos most_cells))
cell_range m (SaysCell k rs) = not (is_between (pos 1) k (pos (length m.cells)))
cell_range m (SaysTerm name tail parts) = looks_beyond (length m.cells) tail
cell_range m _ = false

abbrev pub is_backward : Interval → Bool
is_backward r = int_lt r.high r.low

abbrev pub looks_backward : Option Interval → Bool
looks_backward None = false
looks_backward (Some r) = is_backward r

abbrev pub empty_range : Meaning → Bool
empty_range (SaysDomain rs) = list_any is_backward rs
empty_range (SaysCell k rs) = list_any is_backward rs
empty_range (SaysTerm name tail parts) = looks_backward tail
empty_range _ = false

abbrev pub unknown_name : Meaning → Bool
unknown_name (SaysTerm name tail parts) = is_none parts
unknown_name _ = false

abbrev pub is_bad : Option TermParts → Bool
is_bad None = false
is_bad (Some parts) = not (is_pair parts.aggregator parts.feature)

abbrev pub bad_pair : Meaning → Bool
bad_pair (SaysTerm name tail parts) = is_bad parts
bad_pair _ = false

abbrev pub unknown_term : ModelParts → Meaning → Bool
unknown_term m (SaysRequire name op bound) = is_none (term_at name m.terms)
unknown_term m (SaysObjective name) = is_none (term_at name m.terms)
unknown_term m _ = false

abbrev pub term_twice : ModelParts → Meaning → Bool
term_twice m (SaysTerm name tail parts) = is_some (term_at name m.terms)
term_twice m _ = false

abbrev pub is_objective : Meaning → Bool
is_objective (SaysObjective name) = true
is_objective _ = false

abbrev pub objective_twice : ModelParts → Meaning → Bool
objective_twice m s = is_objective s && is_some m.objective

abbrev pub is_value : ℤ → Bool
is_value v = is_between (neg_ℤ greatest_value) v greatest_value

abbrev pub is_outside : Interval → Bool
is_outside r = not (is_value r.low && is_value r.high)

abbrev pub is_bound : Ext → Bool
is_bound NegInf = true
is_bound (Int b) = is_between (neg_ℤ greatest_bound) b greatest_bound
is_bound PosInf = true

-- how many values all domains have together
abbrev pub total_of : List (List ℤ) → ℕ
total_of cells = sum_by length cells

abbrev pub over_total : Bool → ModelParts → Bool
over_total lists m = lists && nat_lt most_domain_values (total_of m.cells)

-- a limit is passed by the line; lists says whether all domains together have one
abbrev pub passes_limit : Bool → ModelParts → Meaning → Bool
passes_limit lists m (SaysCells n) = over_total lists (with_meaning m (SaysCells n))
passes_limit lists m (SaysDomain rs) =
    if list_any is_outside rs then true else over_total lists (with_meaning m (SaysDomain rs))
passes_limit lists m (SaysCell k rs) =
    if list_any is_outside rs then true else over_total lists (with_meaning m (SaysCell k rs))
passes_limit lists m (SaysTerm name tail parts) = nat_le most_terms (length m.terms)
passes_limit lists m (SaysRequire name op bound) =
    if is_bound bound then nat_le most_requirements (length m.requirements) else true
passes_limit lists m (SaysObjective name) = false

-- the parts of a term, or the kind of bad names
abbrev pub term_made : Option TermParts → Result TermParts ModelKind
term_made None = Err UnknownName
term_made (Some parts) = if is_pair parts.aggregator parts.feature then Ok parts else Err BadPair

-- the window of a tail over count cells, or the kind of a bad one
abbrev pub window_made : ℕ → Option Interval → Result (Option Range) ModelKind
window_made count None = Ok None
window_made count (Some r) =
    if is_beyond count r then Err CellRange else (if is_backward r then Err Empty else Ok (Some (cells_between r)))

-- the union of ranges, or the kind of bad ones
abbrev pub union_given : List Interval → Result (List ℤ) ModelKind
union_given rs =
    if list_any is_backward rs then Err Empty else (if list_any is_outside rs then Err Limit else Ok (union_of rs))

-- the kinds in their order, each with its test
abbrev pub kinds : Bool → ModelParts → Meaning → List (Bool × ModelKind)
kinds lists m s =
    (no_cells m s, NoCells)
    ∷ (cells_twice m s, CellsTwice)
    ∷ (cell_range m s, CellRange)
    ∷ (empty_range s, Empty)
    ∷ (unknown_name s, UnknownName)
    ∷ (bad_pair s, BadPair)
    ∷ (unknown_term m s, UnknownTerm)
    ∷ (term_twice m s, TermTwice)
    ∷ (objective_twice m s, ObjectiveTwice)
    ∷ (passes_limit lists m s, Limit)
    ∷ []

abbrev pub first_kind : List (Bool × ModelKind) → Option ModelKind
first_kind [] = None
first_kind (k ∷ ks) = if k.0 then Some k.1 else first_kind ks

abbrev pub unless_kind : Option ModelKind → ModelParts → Result ModelParts ModelKind
unless_kind None m = Ok m
unless_kind (Some k) m = Err k

-- what is stated after the line, or its first kind
abbrev pub parts_after : Bool → ModelParts → Meaning → Result ModelParts ModelKind
parts_after lists m s = unless_kind (first_kind (kinds lists m s)) (with_meaning m s)
