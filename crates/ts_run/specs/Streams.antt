-- What bytes of a stream owe that have come, before it is known what comes after them.
use Rattle.std.specs.Prelude.{ℕ, ◌≡◌, ◌⊎◌, List, [], ◌∷◌, ◌++◌, Option, None, Some}
use Rattle.ts_run.specs.Reply.{ComesOfInput, Reply}
use Rattle.ts_run.specs.declared.status.Status.{Status}

-- a text that is owed at once, and the status with which the stream has ended, where it has: then nothing more counts
pub record Due : Type 0 where
  pub text : List ℕ
  pub ended : Option Status

-- nothing is owed, and the stream goes on
abbrev pub nothing_due : Due
nothing_due = record { text = []; ended = None }

-- the text begins with the front
abbrev pub IsFront : List ℕ → List ℕ → Type 0
IsFront front text = (rest : List ℕ) × (text ≡ front ++ rest)

-- the text ends at a line's end
abbrev pub IsLines : List ℕ → Type 0
IsLines text = (text ≡ []) ⊎ ((front : List ℕ) × (text ≡ front ++ 10 ∷ []))

-- `due` of bytes, and the `reply` to an input that ends after them, are those of one stream: what was owed stays owed,
-- in whole lines, whatever comes; once the stream has ended, nothing that comes counts, and what is owed is the reply
pub record IsStream (due : List ℕ → Due) (reply : List ℕ → Reply) : Type 0 where
  pub opens : due [] ≡ nothing_due
  pub grows : (bytes more : List ℕ) → IsFront (due bytes).text (due (bytes ++ more)).text
  pub lines : (bytes : List ℕ) → IsLines (due bytes).text
  pub over : (bytes more : List ℕ) (status : Status) → (due bytes).ended ≡ Some status → due (bytes ++ more) ≡ due bytes
  pub begins : (bytes : List ℕ) → IsFront (due bytes).text (reply bytes).text
  pub closes : (bytes : List ℕ) (status : Status) → (due bytes).ended ≡ Some status →
      reply bytes ≡ record { text = (due bytes).text; status = status }
  pub input : (bytes : List ℕ) → ComesOfInput (reply bytes).status

-- after the text of what these bytes owed, this text leads to what they and a piece after them owe
abbrev pub AddsDue : (List ℕ → Due) → List ℕ → List ℕ → List ℕ → List ℕ → Type 0
AddsDue due bytes piece before after =
    (more : List ℕ) × (after ≡ before ++ more) × ((due (bytes ++ piece)).text ≡ (due bytes).text ++ more)

-- a prefix of what a piece adds was put after the text, up to a line's end, where memory was missing
pub record AddsLines (due : List ℕ → Due) (bytes piece before after : List ℕ) : Type 0 where
  pub more : List ℕ
  pub put : after ≡ before ++ more
  pub lines : IsLines ((due bytes).text ++ more)
  pub owed : IsFront ((due bytes).text ++ more) (due (bytes ++ piece)).text

-- the reply is what was owed and this text, with this status
abbrev pub AddsReply : Due → Reply → List ℕ → List ℕ → Status → Type 0
AddsReply due reply before after status =
    (more : List ℕ) × (after ≡ before ++ more) × (reply ≡ record { text = due.text ++ more; status = status })
