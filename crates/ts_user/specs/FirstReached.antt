-- The configurations that a transducer and a pattern reach together, in the order in which they are first reached: each
-- signature leads from the start to a configuration, and of those that lead to one configuration the first, in the row
-- of all signatures, is the one that reaches it first. To take the steps of the listed configurations in turn, on the
-- letters in their order, is to go along that row and to leave out those whose front isn't first itself.
use Rattle.std.specs.Prelude.{◌≡◌, ℕ, ◌<◌, Bool, true, List, [], ◌∷◌, ◌++◌, length}
use Rattle.ts_base.specs.declared.letter.Letter.{Letter}
use Rattle.ts_regex.specs.Shape.{Shape}
use Rattle.ts_regex.specs.NormalForm.{normal_form}
use Rattle.ts_transducer.specs.declared.row.Row.{Row}
use Rattle.ts_transducer.specs.Decode.{row_at}
use Rattle.ts_pattern.specs.Entries.{shapes}
use Rattle.ts_pattern.specs.Closed.{PlainConfiguration, Subject, step_of, move_of, entries_before, no_ind, kept_entries, entries_agree}
use Rattle.ts_user.specs.SignatureOrder.{place, signature_at}

-- rows against a pattern (its expression p and its trim b), with no plan yet
abbrev pub unplanned : List Row → Shape → ℕ → Subject Shape
unplanned rows p b = record { rows = rows; trim = b; whole = normal_form p; configurations = []; on = shapes }

-- the start state with no entry
abbrev pub blank : PlainConfiguration Shape
blank = record { state = 0; live = [] }

abbrev pub reached_from : Subject Shape → PlainConfiguration Shape → List Letter → PlainConfiguration Shape
reached_from s x [] = x
reached_from s x (l ∷ w) = reached_from s (step_of s x l) w

-- the configuration to which a signature leads
abbrev pub reached : Subject Shape → List Letter → PlainConfiguration Shape
reached s w = reached_from s blank w

-- the five checks of the entries that the step of x on l keeps
abbrev pub agrees : Subject Shape → PlainConfiguration Shape → Letter → Bool
agrees s x l =
    entries_agree s.on (move_of s x l).phase (row_at s.rows (move_of s x l).next).kind (no_ind (entries_before s x))
    (kept_entries s x l)

-- w is the first signature that leads to its configuration
abbrev pub IsFirst : Subject Shape → List Letter → Type 0
IsFirst s w = (v : List Letter) → place v < place w → reached s v ≡ reached s w → ⊥

-- the checks hold of each step by which a signature of a place below n ends
abbrev pub PassBelow : Subject Shape → ℕ → Type 0
PassBelow s n = (v : List Letter) (l : Letter) → place (v ++ l ∷ []) < n → agrees s (reached s v) l ≡ true

-- the signatures of a list stand in their order
abbrev pub Rises : List (List Letter) → Type 0
Rises ws = (i j : ℕ) → i < j → j < length ws → place (signature_at ws i) < place (signature_at ws j)

-- the signature w stands in the list
abbrev pub StandsIn : List (List Letter) → List Letter → Type 0
StandsIn ws w = (i : ℕ) × (i < length ws) × (signature_at ws i ≡ w)

-- the list has the first signatures of places below n, in their order
pub record AreFirst (s : Subject Shape) (ws : List (List Letter)) (n : ℕ) : Type 0 where
  pub rises : Rises ws
  pub each : (i : ℕ) → i < length ws → IsFirst s (signature_at ws i) × (place (signature_at ws i) < n)
  pub all : (w : List Letter) → place w < n → IsFirst s w → StandsIn ws w

-- the list has all first signatures, in their order
pub record AreAllFirst (s : Subject Shape) (ws : List (List Letter)) : Type 0 where
  pub rises : Rises ws
  pub each : (i : ℕ) → i < length ws → IsFirst s (signature_at ws i)
  pub all : (w : List Letter) → IsFirst s w → StandsIn ws w
