-- What a line of a pattern text says, from its words alone; or the first of the kinds `unknownline`, `shape`,
-- `expression` and `number` that holds.
use Rattle.std.specs.Prelude.{ℕ, ◌==◌, Bool, true, false, ◌&&◌, not, List, [], ◌∷◌, length, if◌then◌else◌, Option, Some, None, Result, Ok, Err, is_some, is_none, unwrap_or, slice_get}
use Rattle.ts_base.specs.declared.range.Kind.{Kind}
use Rattle.ts_regex.specs.Shape.{Shape}
use Rattle.ts_pattern.specs.declared.name.PatternId.{PatternId}
use Rattle.ts_user.specs.declared.words.Form.{Form}
use Rattle.ts_user.specs.declared.words.Form.TheVariants.{Catalogue, Pattern, Trim, State, Move}
use Rattle.ts_user.specs.declared.statement.MoveParts.{MoveParts}
use Rattle.ts_user.specs.declared.user_stop.UserKind.{UserKind}
use Rattle.ts_user.specs.declared.user_stop.UserKind.TheVariants.{UnknownLine, Shape as BadShape, Expression, Number}
use Rattle.ts_user.specs.FromTheEnd.{expression_of}
use Rattle.ts_user.specs.Words.{form_of, kind_of, sign_of, phase_of, pattern_of, letter_name, trim_of}

-- what a line says: `catalogue`, `pattern`, `trim`, `state` or `move` with their arguments; None in the place of a
-- name that isn't in its table, and of an expression that is too large
pub data Meaning : Type 0 where
  SaysCatalogue : Option PatternId → Meaning
  SaysPattern : Option Shape → Meaning
  SaysTrim : ℕ → ℕ → Meaning
  SaysState : ℕ → Option Kind → Meaning
  SaysMove : MoveParts → Meaning

-- the word at a place, from 0
abbrev pub word_at : List (List ℕ) → ℕ → List ℕ
word_at words k = unwrap_or (slice_get words k) []

-- the words after the first fit the form
abbrev pub has_shape : Form → List (List ℕ) → Bool
has_shape Catalogue ws = length ws == 1
has_shape Pattern ws = length ws == 1
has_shape Trim ws = length ws == 2
has_shape State ws = (length ws == 2) && is_some (letter_name (word_at ws 0))
has_shape Move ws = (length ws == 4) && (is_some (letter_name (word_at ws 0)) && is_some (letter_name (word_at ws 3)))

-- the word in the place of an expression isn't in the grammar
abbrev pub bad_expression_of : Form → List (List ℕ) → Bool
bad_expression_of Pattern ws = is_none (expression_of (word_at ws 0))
bad_expression_of _ ws = false

-- a trim isn't a number in its range: before it is from 0 to 2, after it 0 or 1
abbrev pub bad_number_of : Form → List (List ℕ) → Bool
bad_number_of Trim ws = if is_none (trim_of 2 (word_at ws 0)) then true else is_none (trim_of 1 (word_at ws 1))
bad_number_of _ ws = false

abbrev pub move_said : List (List ℕ) → MoveParts
move_said ws = record {
  from = unwrap_or (letter_name (word_at ws 0)) 0;
  sign = sign_of (word_at ws 1);
  phase = phase_of (word_at ws 2);
  to = unwrap_or (letter_name (word_at ws 3)) 0;
}

-- what a line says of which neither `unknownline`, `shape`, `expression` nor `number` holds
abbrev pub said_by : Form → List (List ℕ) → Meaning
said_by Catalogue ws = SaysCatalogue (pattern_of (word_at ws 0))
said_by Pattern ws = SaysPattern (unwrap_or (expression_of (word_at ws 0)) None)
said_by Trim ws = SaysTrim (unwrap_or (trim_of 2 (word_at ws 0)) 0) (unwrap_or (trim_of 1 (word_at ws 1)) 0)
said_by State ws = SaysState (unwrap_or (letter_name (word_at ws 0)) 0) (kind_of (word_at ws 1))
said_by Move ws = SaysMove (move_said ws)

abbrev pub parsed_by : Form → List (List ℕ) → Result Meaning UserKind
parsed_by form ws =
    if not (has_shape form ws) then Err BadShape
    else (if bad_expression_of form ws then Err Expression
    else (if bad_number_of form ws then Err Number
    else Ok (said_by form ws)))

abbrev pub parsed_as : Option Form → List (List ℕ) → Result Meaning UserKind
parsed_as None ws = Err UnknownLine
parsed_as (Some form) ws = parsed_by form ws

-- what the words of a line say, or the first of `unknownline`, `shape`, `expression` and `number` that holds
abbrev pub meaning_in : List (List ℕ) → Result Meaning UserKind
meaning_in [] = Err UnknownLine
meaning_in (first ∷ ws) = parsed_as (form_of first) ws
