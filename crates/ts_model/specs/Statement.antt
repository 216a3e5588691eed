-- What a line says, from its words alone; or the first of the kinds `unknownline`, `shape` and `number` that holds.
use Rattle.std.specs.Prelude.{ℕ, ◌+◌, ◌==◌, ℤ, Bool, ◌&&◌, ◌||◌, List, [], ◌∷◌, length, drop, if◌then◌else◌, nat_lt, Option, Some, None, Result, Err, is_some, unwrap_or, ok_or, slice_get}
use Rattle.std.specs.Option.{option_map}
use Rattle.ts_base.specs.declared.ext.Ext.{Ext}
use Rattle.ts_domain.specs.declared.interval.Interval.{Interval}
use Rattle.ts_token.specs.Number.{number_of, ext_of}
use Rattle.ts_pattern.specs.declared.name.Aggregator.{Aggregator}
use Rattle.ts_pattern.specs.declared.name.Aggregator.TheVariants.{Sum}
use Rattle.ts_pattern.specs.declared.name.Feature.{Feature}
use Rattle.ts_pattern.specs.declared.name.Feature.TheVariants.{One}
use Rattle.ts_pattern.specs.declared.name.PatternId.{PatternId}
use Rattle.ts_model.specs.declared.words.Form.{Form}
use Rattle.ts_model.specs.declared.words.Form.TheVariants.{Cells, Domain, Cell, Term, Require, Objective}
use Rattle.ts_model.specs.declared.model.Op.{Op}
use Rattle.ts_model.specs.declared.statement.TermParts.{TermParts}
use Rattle.ts_model.specs.declared.error.ModelKind.{ModelKind}
use Rattle.ts_model.specs.declared.error.ModelKind.TheVariants.{UnknownLine, Shape, Number}
use Rattle.ts_model.specs.Words.{form_of, op_of, is_equals, is_count, is_in, is_name, range_of, ranges_of, aggregator_of, feature_of, pattern_of}

-- what a line says: `cells`, `domain`, `cell`, `term`, `require` or `objective` with their arguments. A term may have a
-- range of cells that it looks at; it has no parts where its aggregator, its feature or its pattern has a name that
-- isn't in the tables.
pub data Meaning : Type 0 where
  SaysCells : ℤ → Meaning
  SaysDomain : List Interval → Meaning
  SaysCell : ℤ → List Interval → Meaning
  SaysTerm : List ℕ → Option Interval → Option TermParts → Meaning
  SaysRequire : List ℕ → Op → Ext → Meaning
  SaysObjective : List ℕ → Meaning

-- the word at a place, from 0
abbrev pub word_at : List (List ℕ) → ℕ → List ℕ
word_at words k = unwrap_or (slice_get words k) []

-- how many words stand after `term`, up to the name of the pattern
abbrev pub term_length : List (List ℕ) → ℕ
term_length ws = if is_count (word_at ws 2) then 4 else 5

-- after so many words two more stand, the first of which is `in`
abbrev pub has_tail : ℕ → List (List ℕ) → Bool
has_tail n ws = (length ws == n + 2) && is_in (word_at ws n)

-- the words end with the name of the pattern, or with a tail after it
abbrev pub has_term_length : List (List ℕ) → Bool
has_term_length ws = (length ws == term_length ws) || has_tail (term_length ws) ws

-- the words after the first fit the form
abbrev pub has_shape : Form → List (List ℕ) → Bool
has_shape Cells ws = length ws == 1
has_shape Domain ws = nat_lt 0 (length ws)
has_shape Cell ws = nat_lt 1 (length ws)
has_shape Term ws = has_term_length ws && (is_name (word_at ws 0) && is_equals (word_at ws 1))
has_shape Require ws = (length ws == 3) && (is_name (word_at ws 0) && is_some (op_of (word_at ws 1)))
has_shape Objective ws = (length ws == 1) && is_name (word_at ws 0)

-- a line of the form has no ranges, and so few words
abbrev pub HasFew : Form → Type 0
HasFew Cells = Unit {0}
HasFew Domain = ⊥
HasFew Cell = ⊥
HasFew Term = Unit {0}
HasFew Require = Unit {0}
HasFew Objective = Unit {0}

-- the parts of three names, where each is in its table
abbrev pub made_parts : Option Aggregator → Option Feature → Option PatternId → Option TermParts
made_parts None f p = None
made_parts (Some a) None p = None
made_parts (Some a) (Some f) None = None
made_parts (Some a) (Some f) (Some p) = Some (record { aggregator = a; feature = f; pattern = p })

-- `count PATTERN` is `sum one PATTERN`
abbrev pub parts_said : List (List ℕ) → Option TermParts
parts_said ws =
    if is_count (word_at ws 2) then made_parts (Some Sum) (Some One) (pattern_of (word_at ws 3))
    else made_parts (aggregator_of (word_at ws 2)) (feature_of (word_at ws 3)) (pattern_of (word_at ws 4))

-- the range of the tail, if the words end with the name of the pattern or the last one is a range
abbrev pub tail_said : List (List ℕ) → Option (Option Interval)
tail_said ws =
    if length ws == term_length ws then Some None else option_map Some (range_of (word_at ws (term_length ws + 1)))

abbrev pub said_term : List ℕ → Option (Option Interval) → Option TermParts → Option Meaning
said_term name None parts = None
said_term name (Some tail) parts = Some (SaysTerm name tail parts)

abbrev pub said_cell : Option ℤ → Option (List Interval) → Option Meaning
said_cell None rs = None
said_cell (Some k) rs = option_map (SaysCell k) rs

abbrev pub said_require : List ℕ → Option Op → Option Ext → Option Meaning
said_require name None bound = None
said_require name (Some op) None = None
said_require name (Some op) (Some bound) = Some (SaysRequire name op bound)

-- what a line of this shape says; None where a word in the place of a number, range or bound isn't one
abbrev pub said_by : Form → List (List ℕ) → Option Meaning
said_by Cells ws = option_map SaysCells (number_of (word_at ws 0))
said_by Domain ws = option_map SaysDomain (ranges_of ws)
said_by Cell ws = said_cell (number_of (word_at ws 0)) (ranges_of (drop 1 ws))
said_by Term ws = said_term (word_at ws 0) (tail_said ws) (parts_said ws)
said_by Require ws = said_require (word_at ws 0) (op_of (word_at ws 1)) (ext_of (word_at ws 2))
said_by Objective ws = Some (SaysObjective (word_at ws 0))

abbrev pub parsed_by : Form → List (List ℕ) → Result Meaning ModelKind
parsed_by form ws = if has_shape form ws then ok_or (said_by form ws) Number else Err Shape

abbrev pub parsed_as : Option Form → List (List ℕ) → Result Meaning ModelKind
parsed_as None ws = Err UnknownLine
parsed_as (Some form) ws = parsed_by form ws

-- what the words of a line say, or the first kind of `unknownline`, `shape`, `number` that holds
abbrev pub meaning_in : List (List ℕ) → Result Meaning ModelKind
meaning_in [] = Err UnknownLine
meaning_in (first ∷ ws) = parsed_as (form_of first) ws
