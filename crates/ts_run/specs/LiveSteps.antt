-- What a piece of a stream leads to in the midst of a call, and its end.
use Rattle.std.specs.Prelude.{ℕ, ◌≡◌, Bool, List, ◌++◌, Option, None, Some}
use Rattle.ts_base.specs.Outside.{taken_more}
use Rattle.ts_run.specs.LiveEndings.{EndsInLines}
use Rattle.ts_run.specs.Reply.{Reply}
use Rattle.ts_run.specs.Streams.{Due, IsFront, IsLines}
use Rattle.ts_run.specs.Well.{WritesWell}
use Rattle.ts_run.specs.declared.status.Status.{Status}
use Rattle.ts_run.specs.declared.status.Status.TheVariants.{WriteFault, Memory}

-- after what bytes owed, what they and a piece after them owe was taken
abbrev pub TakesDue : (List ℕ → Due) → List ℕ → List ℕ → Option (List ℕ) → Option (List ℕ) → Type 0
TakesDue due bytes piece before after =
    (more : List ℕ) × ((due (bytes ++ piece)).text ≡ (due bytes).text ++ more) × (after ≡ taken_more before more)

-- a prefix of what a piece adds was taken, and something holds of it
abbrev pub TakesFront : (List ℕ → Type 0) → (List ℕ → Due) → List ℕ → List ℕ → Option (List ℕ) → Option (List ℕ) →
    Type 0
TakesFront Is due bytes piece before after =
    (more : List ℕ) × IsFront ((due bytes).text ++ more) (due (bytes ++ piece)).text × Is ((due bytes).text ++ more)
    × (after ≡ taken_more before more)

abbrev pub IsAny : List ℕ → Type 0
IsAny text = Unit {0}

-- how a piece stops a call: what is owed was taken whole, and the piece has ended the stream; or a write failed, or
-- there was no memory, and a prefix of what is owed was taken, without memory whole lines
abbrev pub Stops : (List ℕ → Due) → List ℕ → List ℕ → Option (List ℕ) → Option (List ℕ) → Status → Type 0
Stops due bytes piece before after WriteFault = TakesFront IsAny due bytes piece before after
Stops due bytes piece before after Memory = TakesFront IsLines due bytes piece before after
Stops due bytes piece before after status =
    TakesDue due bytes piece before after × ((due (bytes ++ piece)).ended ≡ Some status)

-- a piece is done with, or has stopped the call
abbrev pub Serves : (List ℕ → Due) → List ℕ → List ℕ → Option (List ℕ) → Option (List ℕ) → Option Status → Type 0
Serves due bytes piece before after None =
    TakesDue due bytes piece before after × ((due (bytes ++ piece)).ended ≡ None)
Serves due bytes piece before after (Some status) = Stops due bytes piece before after status

-- the end of the input: after what was owed, the rest of the reply was given
abbrev pub EndsBehind : Due → Reply → Option (List ℕ) → Option (List ℕ) → Status → Type 0
EndsBehind due reply before after status =
    (r : Reply) × (reply ≡ record { text = due.text ++ r.text; status = r.status }) × EndsInLines r before after status

-- a call in the midst of a stream went well: no fault was counted and nothing was finished
pub record WritesOn {K : Type 0} (faults : K → ℕ) (finishes : K → ℕ) (old new : K) : Type 0 where
  pub calm : faults new ≡ faults old
  pub unfinished : finishes new ≡ finishes old

-- what a piece does to the sink, which goes on or has stopped the call
abbrev pub PieceWell : {K : Type 0} → (K → ℕ) → (K → Bool) → (K → Bool) → (K → ℕ) → K → K → Option Status → Type 0
PieceWell faults is_broken is_finished finishes old new None = WritesOn faults finishes old new
PieceWell faults is_broken is_finished finishes old new (Some status) =
    WritesWell faults is_broken is_finished finishes old new status
