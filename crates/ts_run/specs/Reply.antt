-- What a command replies, and what its sink took when the call ended.
use Rattle.std.specs.Prelude.{ℕ, ◌≡◌, ◌⊎◌, List, ◌++◌, Option}
use Rattle.ts_base.specs.Outside.{taken_more, Prefix}
use Rattle.ts_run.specs.declared.reply.Reply.{Reply as GivenReply}
use Rattle.ts_run.specs.declared.status.Status.{Status}
use Rattle.ts_run.specs.declared.status.Status.TheVariants.{Done, No, Refused, Budget, ReadFault, WriteFault, Memory}

-- the statuses as numbers
abbrev pub status_code : Status → ℕ
status_code Done = 0
status_code No = 1
status_code Refused = 2
status_code Budget = 3
status_code ReadFault = 4
status_code WriteFault = 5
status_code Memory = 6

-- a text, and the status with which the call ends once it is written
pub record Reply : Type 0 where
  pub text : List ℕ
  pub status : Status

-- a reply after a text
abbrev pub behind_text : List ℕ → Reply → Reply
behind_text text r = record { text = text ++ r.text; status = r.status }

-- the program's reply, its text as a list
abbrev pub reply_of : GivenReply → Reply
reply_of r = record { text = r.text.items; status = r.status }

-- a status with which a call ends that has written a reply
abbrev pub EndsWritten : Status → Type 0
EndsWritten WriteFault = ⊥
EndsWritten Memory = ⊥
EndsWritten _ = Unit {0}

-- a status that comes of the input alone
abbrev pub ComesOfInput : Status → Type 0
ComesOfInput ReadFault = ⊥
ComesOfInput WriteFault = ⊥
ComesOfInput Memory = ⊥
ComesOfInput _ = Unit {0}

-- a status that reports no fault
abbrev pub TellsNoFault : Status → Type 0
TellsNoFault ReadFault = ⊥
TellsNoFault WriteFault = ⊥
TellsNoFault _ = Unit {0}

-- how a call ends that has this reply to give: what the sink took before and after it, and the call's status. The text
-- was taken whole and the status is the reply's; or a write failed, and a prefix of the text was taken; or there was no
-- memory, and nothing was taken.
abbrev pub Ends : Reply → Option (List ℕ) → Option (List ℕ) → Status → Type 0
Ends reply before after WriteFault = Prefix reply.text before after
Ends reply before after Memory = after ≡ before
Ends reply before after status = (after ≡ taken_more before reply.text) × (reply.status ≡ status)

-- how a call ends that has some reply of this kind to give: without memory there is none, and nothing was taken
abbrev pub EndsWith : (Reply → Type 0) → Option (List ℕ) → Option (List ℕ) → Status → Type 0
EndsWith Is before after status =
    ((status ≡ Memory) × (after ≡ before)) ⊎ ((r : Reply) × Is r × Ends r before after status)
