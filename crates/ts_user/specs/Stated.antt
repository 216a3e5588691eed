-- What the lines of a pattern text state together, and the kinds of bad lines from `twice` on: one test for each, of
-- what a line says after the lines that state m.
use Rattle.std.specs.Prelude.{ℕ, ◌==◌, Bool, true, false, not, ◌&&◌, List, [], ◌∷◌, ◌++◌, length, map, set, if◌then◌else◌, nat_le, nat_lt, Option, Some, None, Result, Ok, Err, is_some, is_none, unwrap_or, option_map, slice_get}
use Rattle.std.specs.List.{list_all, list_any, position}
use Rattle.ts_base.specs.declared.letter.Letter.{Letter}
use Rattle.ts_base.specs.declared.letter.Letter.TheVariants.{Less, Equal, Greater}
use Rattle.ts_base.specs.declared.range.Kind.{Kind}
use Rattle.ts_base.specs.declared.range.Kind.TheVariants.{Idle}
use Rattle.ts_regex.specs.Shape.{Shape, Eps}
use Rattle.ts_transducer.specs.declared.row.Phase.{Phase}
use Rattle.ts_transducer.specs.declared.row.Arrow.{Arrow}
use Rattle.ts_transducer.specs.declared.row.Row.{Row}
use Rattle.ts_transducer.specs.Decode.{resting_row}
use Rattle.ts_transducer.specs.Typing.{is_typed}
use Rattle.ts_pattern.specs.declared.name.PatternId.{PatternId}
use Rattle.ts_pattern.specs.PatternTable.{pattern_shape, pattern_b, pattern_a}
use Rattle.ts_seed.specs.SeedTable.{seed_table}
use Rattle.ts_user.specs.declared.stated.StatedState.{StatedState}
use Rattle.ts_user.specs.declared.user_stop.UserKind.{UserKind}
use Rattle.ts_user.specs.declared.user_stop.UserKind.TheVariants.{Twice, UnknownName, Limit, Missing, ShortWord, Typing}
use Rattle.ts_user.specs.Shortest.{has_short_word}
use Rattle.ts_user.specs.Statement.{Meaning, SaysCatalogue, SaysPattern, SaysTrim, SaysState, SaysMove}

abbrev pub most_states : ℕ
most_states = 8

-- what stands in a pattern text
pub record Stated : Type 0 where
  pub catalogue : Option PatternId
  pub expression : Option Shape
  pub trims : Option (ℕ × ℕ)
  pub states : List StatedState

abbrev pub nothing : Stated
nothing = record { catalogue = None; expression = None; trims = None; states = [] }

-- the place of the state with this name
abbrev pub state_at : ℕ → List StatedState → Option ℕ
state_at name states = position (λ s. s.name == name) states

abbrev pub arrow_stated : Letter → StatedState → Option Arrow
arrow_stated Less s = s.less
arrow_stated Equal s = s.equal
arrow_stated Greater s = s.greater

abbrev pub with_arrow : Letter → Arrow → StatedState → StatedState
with_arrow Less m s = record s { less = Some m }
with_arrow Equal m s = record s { equal = Some m }
with_arrow Greater m s = record s { greater = Some m }

abbrev pub set_state : List StatedState → ℕ → Option StatedState → List StatedState
set_state states i None = states
set_state states i (Some s) = set states i s

-- the state at this place has the move on the letter
abbrev pub with_arrow_at : List StatedState → ℕ → Letter → Arrow → List StatedState
with_arrow_at states i l m = set_state states i (option_map (with_arrow l m) (slice_get states i))

abbrev pub new_state : ℕ → Kind → StatedState
new_state name kind = record { name = name; kind = kind; less = None; equal = None; greater = None }

abbrev pub moved : Option Letter → Option Phase → Option ℕ → Option ℕ → List StatedState → List StatedState
moved None f i j states = states
moved (Some l) None i j states = states
moved (Some l) (Some f) None j states = states
moved (Some l) (Some f) (Some i) None states = states
moved (Some l) (Some f) (Some i) (Some j) states = with_arrow_at states i l (record { phase = f; next = j })

-- what is stated with one more line, of which no kind holds
abbrev pub with_meaning : Stated → Meaning → Stated
with_meaning m (SaysCatalogue id) = record m { catalogue = id }
with_meaning m (SaysPattern r) = record m { expression = r }
with_meaning m (SaysTrim b a) = record m { trims = Some (b, a) }
with_meaning m (SaysState name kind) = record m { states = m.states ++ new_state name (unwrap_or kind Idle) ∷ [] }
with_meaning m (SaysMove p) =
    record m { states = moved p.sign p.phase (state_at p.from m.states) (state_at p.to m.states) m.states }

-- the state of this name has a move on the sign
abbrev pub has_move : ℕ → Option Letter → List StatedState → Bool
has_move name None states = false
has_move name (Some l) states = list_any (λ s. (s.name == name) && is_some (arrow_stated l s)) states

-- what the line states stands so far; or it is a `catalogue` line, and not the only line that isn't skipped
abbrev pub states_twice : Bool → Stated → Meaning → Bool
states_twice alone m (SaysCatalogue id) = not alone
states_twice alone m (SaysPattern r) = is_some m.expression
states_twice alone m (SaysTrim b a) = is_some m.trims
states_twice alone m (SaysState name kind) = is_some (state_at name m.states)
states_twice alone m (SaysMove p) = has_move p.from p.sign m.states

abbrev pub unknown_move : Option Letter → Option Phase → Option ℕ → Option ℕ → Bool
unknown_move sign phase from to =
    if is_none sign then true
    else (if is_none phase then true
    else (if is_none from then true
    else is_none to))

abbrev pub unknown_name : Stated → Meaning → Bool
unknown_name m (SaysCatalogue id) = is_none id
unknown_name m (SaysState name kind) = is_none kind
unknown_name m (SaysMove p) = unknown_move p.sign p.phase (state_at p.from m.states) (state_at p.to m.states)
unknown_name m _ = false

abbrev pub passes_limit : Stated → Meaning → Bool
passes_limit m (SaysPattern r) = is_none r
passes_limit m (SaysState name kind) = nat_le most_states (length m.states)
passes_limit m _ = false

-- the kinds in their order, each with its test
abbrev pub kinds : Bool → Stated → Meaning → List (Bool × UserKind)
kinds alone m s =
    (states_twice alone m s, Twice)
    ∷ (unknown_name m s, UnknownName)
    ∷ (passes_limit m s, Limit)
    ∷ []

abbrev pub first_kind : List (Bool × UserKind) → Option UserKind
first_kind [] = None
first_kind (k ∷ ks) = if k.0 then Some k.1 else first_kind ks

abbrev pub unless_kind : {A : Type 0} → Option UserKind → A → Result A UserKind
unless_kind None x = Ok x
unless_kind (Some k) x = Err k

-- what is stated after the line, or its first kind
abbrev pub stated_with : Bool → Stated → Meaning → Result Stated UserKind
stated_with alone m s = unless_kind (first_kind (kinds alone m s)) (with_meaning m s)

-- a pattern with its transducer: the expression, the trims, and the rows
pub record Described : Type 0 where
  pub expression : Shape
  pub b : ℕ
  pub a : ℕ
  pub rows : List Row

-- a state has its three moves
abbrev pub is_complete : StatedState → Bool
is_complete s = is_some s.less && is_some s.equal && is_some s.greater

abbrev pub row_stated : StatedState → Row
row_stated s = record {
  kind = s.kind;
  less = unwrap_or s.less resting_row.less;
  equal = unwrap_or s.equal resting_row.less;
  greater = unwrap_or s.greater resting_row.less;
}

-- an expression, trims and states as a pattern with its transducer
abbrev pub described_as : Shape → ℕ × ℕ → List StatedState → Described
described_as r t states = record { expression = r; b = t.0; a = t.1; rows = map row_stated states }

abbrev pub described_by : Option PatternId → Stated → Described
described_by (Some id) m =
    record { expression = pattern_shape id; b = pattern_b id; a = pattern_a id; rows = (seed_table id).rows }
described_by None m = described_as (unwrap_or m.expression Eps) (unwrap_or m.trims (0, 0)) m.states

-- what a text states of which no kind holds: the pattern of the catalogue, or its own
abbrev pub described : Stated → Described
described m = described_by m.catalogue m

-- neither a pattern of the catalogue nor all of a pattern, its trims, a state, and the three moves of each state
abbrev pub is_missing : Option PatternId → Stated → Bool
is_missing (Some id) m = false
is_missing None m =
    not (is_some m.expression && is_some m.trims && nat_lt 0 (length m.states) && list_all is_complete m.states)

-- the kinds of a pattern that is whole, in their order, each with its test
abbrev pub whole_kinds : Described → List (Bool × UserKind)
whole_kinds d = (has_short_word d.expression d.b d.a, ShortWord) ∷ (not (is_typed d.rows), Typing) ∷ []

-- the kinds of a text without a bad line
abbrev pub end_kinds : Stated → Described → List (Bool × UserKind)
end_kinds m d = (is_missing m.catalogue m, Missing) ∷ whole_kinds d

-- a pattern that is whole, or the first kind that holds of it
abbrev pub judged : Described → Result Described UserKind
judged d = unless_kind (first_kind (whole_kinds d)) d

-- what a text describes without a bad line, or the first kind that holds of it
abbrev pub ended_stated : Stated → Result Described UserKind
ended_stated m = unless_kind (first_kind (end_kinds m (described m))) (described m)
