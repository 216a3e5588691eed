-- What a reader of a model keeps between lines.
use Rattle.std.specs.Prelude.{ℕ, ◌≡◌, ◌+◌, ◌<◌, ◌≤◌, List, Result, Ok, Err}
use Rattle.ts_base.specs.Limits.{too_many}
use Rattle.ts_model.specs.declared.error.ModelStop.{ModelStop}
use Rattle.ts_model.specs.declared.error.ModelStop.TheVariants.{Refused, Memory}
use Rattle.ts_model.specs.declared.model.Model.{Model}
use Rattle.ts_model.specs.declared.reader.Progress.{Progress}
use Rattle.ts_model.specs.declared.reader.State.{State}
use Rattle.ts_model.specs.declared.reader.State.TheVariants.{Open, Stopped}
use Rattle.ts_model.specs.LineByLine.{SoFar, line_step}
use Rattle.ts_model.specs.ModelReading.{ended_model, needs_lists}
use Rattle.ts_model.specs.Views.{draft_parts, IsSound, Reads}

-- the draft may take a line
pub record IsFit (p : Progress) : Type 0 where
  pub sound : IsSound p.draft
  pub limited : p.draft.cells.limited ≡ needs_lists p.need
  pub turn : p.draft.cells.turn ≤ p.count
  pub few : p.count < too_many

abbrev pub IsFitState : State → Type 0
IsFitState (Open p) = IsFit p
IsFitState (Stopped stop) = Unit {0}

-- the line is taken
pub record HasTaken (old new : Progress) (line : List ℕ) : Type 0 where
  pub fit : IsFit new
  pub need : new.need ≡ old.need
  pub count : new.count ≡ old.count + 1
  pub gives : line_step old.need (old.count + 1) (draft_parts old.draft) line ≡ Ok (draft_parts new.draft)

-- the line is taken, or is bad, or memory was missing
abbrev pub TakesLine : Progress → List ℕ → Result (Unit {0}) ModelStop → Progress → Type 0
TakesLine old line (Ok _) new = HasTaken old new line
TakesLine old line (Err (Refused number kind)) new =
    line_step old.need (old.count + 1) (draft_parts old.draft) line ≡ Err (number, kind)
TakesLine old line (Err Memory) new = Unit {0}

-- what contracts see of a reader
abbrev pub state_view : State → Result SoFar ModelStop
state_view (Open p) = Ok (record { need = p.need; count = p.count; stated = draft_parts p.draft })
state_view (Stopped stop) = Err stop

-- what a reader makes of a line
abbrev pub StateTakes : State → List ℕ → State → Type 0
StateTakes (Open old) line (Open new) = HasTaken old new line
StateTakes (Open old) line (Stopped (Refused number kind)) =
    line_step old.need (old.count + 1) (draft_parts old.draft) line ≡ Err (number, kind)
StateTakes (Open old) line (Stopped Memory) = Unit {0}
StateTakes (Stopped old) line (Open new) = ⊥
StateTakes (Stopped old) line (Stopped new) = new ≡ old

-- memory wasn't missing
abbrev pub IsCalm : State → Type 0
IsCalm (Open p) = Unit {0}
IsCalm (Stopped (Refused number kind)) = Unit {0}
IsCalm (Stopped Memory) = ⊥

-- the end after the last line
abbrev pub StateEnds : State → Result Model ModelStop → Type 0
StateEnds (Open p) result = Reads result (ended_model p.need p.count (draft_parts p.draft))
StateEnds (Stopped stop) result = result ≡ Err stop
