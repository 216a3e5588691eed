-- How a call ends, by its words: what was written, what was read, and that each fault was counted.
use Rattle.std.specs.Prelude.{ℕ, ◌≡◌, ◌<◌, ◌≤◌, ◌+◌, ◌⊎◌, Bool, List, [], length, Option, Some, None}
use Rattle.ts_base.specs.Outside.{AtEnd, GaveAtMost, HasMoreThan, Rose, left_after}
use Rattle.ts_run.specs.Refusals.{fault_read, refused_length, refused_words}
use Rattle.ts_run.specs.Commands.{input_of}
use Rattle.ts_run.specs.Headline.{Headline}
use Rattle.ts_run.specs.LiveEndings.{LiveEnds}
use Rattle.ts_run.specs.Reply.{ComesOfInput, Ends, EndsWith, Reply}
use Rattle.ts_run.specs.Streams.{Due, nothing_due}
use Rattle.ts_run.specs.Watch.{watch_due}
use Rattle.ts_run.specs.Well.{ReadsWell, WritesWell}
use Rattle.ts_run.specs.declared.command.Command.{Command}
use Rattle.ts_run.specs.declared.command.Command.TheVariants.{Watch}
use Rattle.ts_run.specs.declared.command.Input.{Input}
use Rattle.ts_run.specs.declared.command.Input.TheVariants.{Whole, Live, Nothing}
use Rattle.ts_run.specs.declared.status.Status.{Status}
use Rattle.ts_run.specs.declared.status.Status.TheVariants.{ReadFault, Memory}

-- a reply to an input that may have at most limit bytes: one of this kind, or the refusal of its length
abbrev pub RepliesWithin : ℕ → (List ℕ → Reply → Type 0) → List ℕ → Reply → Type 0
RepliesWithin limit Is bytes r = ((length bytes ≤ limit) × Is bytes r) ⊎ ((limit < length bytes) × (r ≡ refused_length))

-- no read failed, and a reply to the bytes was given; or one failed, and `fault read` was
abbrev pub Responds : (Reply → Type 0) → ℕ → ℕ → Option (List ℕ) → Option (List ℕ) → Status → Type 0
Responds Is faults faults_after before after status =
    ((faults_after ≡ faults) × EndsWith Is before after status)
    ⊎ (Rose faults faults_after × EndsWith (λ r. r ≡ fault_read) before after status)

-- what holds of the bytes that were left, or of some bytes if the source doesn't say which
abbrev pub OfBytes : Option (List ℕ) → (List ℕ → Type 0) → Type 0
OfBytes None Is = (bytes : List ℕ) × Is bytes
OfBytes (Some bytes) Is = Is bytes

-- a call that takes its whole input and gives such a reply: what the source has left and its faults, what the sink
-- took, and the status
pub record WholeEnds (limit : ℕ) (Is : List ℕ → Reply → Type 0) (left : Option (List ℕ)) (faults faults_after : ℕ)
    (before after : Option (List ℕ)) (status : Status) : Type 0 where
  pub reply : OfBytes left (λ bytes.
      Responds (RepliesWithin limit Is bytes) faults faults_after before after status)
  pub fault : status ≡ ReadFault → Ends fault_read before after status

-- the input was read to its end, or to one byte more than the limit where it has more
abbrev pub IsRead : ℕ → Option (List ℕ) → Option (List ℕ) → Type 0
IsRead limit left left_now =
    (AtEnd left_now × GaveAtMost limit left left_now)
    ⊎ (HasMoreThan limit left × (left_now ≡ left_after (limit + 1) left))

-- what a call has read that takes its whole input
pub record WholeTakes (limit : ℕ) (left left_now : Option (List ℕ)) (status : Status) : Type 0 where
  pub most : GaveAtMost (limit + 1) left left_now
  pub whole : ComesOfInput status → IsRead limit left left_now
  pub memory : status ≡ Memory → GaveAtMost limit left left_now

-- what a command that takes its input as a stream owes once some bytes have come
abbrev pub due_of : Command → List ℕ → Due
due_of Watch bytes = watch_due bytes
due_of _ bytes = nothing_due

-- how a call ends, by how its command takes its input; of a stream, what is owed before its end is known
abbrev pub InputEnds : Input → (List ℕ → Reply → Type 0) → (List ℕ → Due) → Option (List ℕ) → Option (List ℕ) →
    ℕ → ℕ → Option (List ℕ) → Option (List ℕ) → Status → Type 0
InputEnds (Whole limit) Is due left left_now faults faults_after before after status =
    WholeEnds limit Is left faults faults_after before after status
InputEnds (Live limit) Is due left left_now faults faults_after before after status =
    LiveEnds limit Is due left left_now faults faults_after before after status
InputEnds Nothing Is due left left_now faults faults_after before after status =
    (faults_after ≡ faults) × EndsWith (Is []) before after status

-- what a command has read of its source; how much of a stream it has read is said where the stream ends
abbrev pub InputTakes : Input → {S : Type 0} → (S → Option (List ℕ)) → S → S → Status → Type 0
InputTakes (Whole limit) left old new status = WholeTakes limit (left old) (left new) status
InputTakes (Live limit) left old new status = GaveAtMost (limit + 1) (left old) (left new)
InputTakes Nothing left old new status = new ≡ old

-- how a call ends whose words are this command, or no command's
abbrev pub CallEnds : Option Command → Option (List ℕ) → Option (List ℕ) → ℕ → ℕ → Option (List ℕ) →
    Option (List ℕ) → Status → Type 0
CallEnds None left left_now faults faults_after before after status = Ends refused_words before after status
CallEnds (Some command) left left_now faults faults_after before after status =
    InputEnds (input_of command) (Headline command) (due_of command) left left_now faults faults_after before after
    status

-- what a call has read of its source; nothing where its words are no command's
abbrev pub CallTakes : Option Command → {S : Type 0} → (S → Option (List ℕ)) → S → S → Status → Type 0
CallTakes None left old new status = new ≡ old
CallTakes (Some command) left old new status = InputTakes (input_of command) left old new status

-- what a source says of itself: the bytes that it has left, its failed reads, whether one has broken it, and how often
-- its end was found
pub record SourceTells (S : Type 0) : Type 0 where
  pub left : S → Option (List ℕ)
  pub faults : S → ℕ
  pub is_broken : S → Bool
  pub ends : S → ℕ

-- what a sink says of itself: the bytes that it has taken, its failed calls, whether one has broken it, whether it is
-- finished, and how often that was asked of it
pub record SinkTells (K : Type 0) : Type 0 where
  pub taken : K → Option (List ℕ)
  pub faults : K → ℕ
  pub is_broken : K → Bool
  pub is_finished : K → Bool
  pub finishes : K → ℕ

-- what a source and a sink say of themselves, by the members of their types
abbrev pub source_tells : {S : Type 0} → (S → Option (List ℕ)) → (S → ℕ) → (S → Bool) → (S → ℕ) → SourceTells S
source_tells left faults is_broken ends =
    record { left = left; faults = faults; is_broken = is_broken; ends = ends }

abbrev pub sink_tells :
    {K : Type 0} → (K → Option (List ℕ)) → (K → ℕ) → (K → Bool) → (K → Bool) → (K → ℕ) → SinkTells K
sink_tells taken faults is_broken is_finished finishes = record {
  taken = taken;
  faults = faults;
  is_broken = is_broken;
  is_finished = is_finished;
  finishes = finishes;
}

-- what a call that ran out of memory leaves of its sink: nothing was written, or of a stream what `LiveEnds` says; then
-- nothing was finished, and no fault was counted
abbrev pub InputSpares : Input → {K : Type 0} → SinkTells K → K → K → Type 0
InputSpares (Whole limit) k old new = new ≡ old
InputSpares (Live limit) k old new = (k.faults new ≡ k.faults old) × (k.finishes new ≡ k.finishes old)
InputSpares Nothing k old new = new ≡ old

-- what a call that ran out of memory leaves of its sink; words that are no command's are refused without any memory
abbrev pub CallSpares : Option Command → {K : Type 0} → SinkTells K → K → K → Type 0
CallSpares None k old new = ⊥
CallSpares (Some command) k old new = InputSpares (input_of command) k old new

-- all that is promised of a call with these words: the sink took the answer of the theorem, or a fault or running out
-- of memory is reported; no more was read than that needs; a fault is reported only if one was counted; and if memory
-- ran out, which never keeps bad words from being refused, nothing was written, or the first lines of a stream's answer
pub record RunEnds {S K : Type 0} (s : SourceTells S) (k : SinkTells K) (given : Option Command) (source source_now : S)
    (sink sink_now : K) (status : Status) : Type 0 where
  pub answers : CallEnds given (s.left source) (s.left source_now) (s.faults source) (s.faults source_now)
      (k.taken sink) (k.taken sink_now) status
  pub takes : CallTakes given s.left source source_now status
  pub reads : ReadsWell s.faults s.is_broken s.ends source source_now status
  pub writes : WritesWell k.faults k.is_broken k.is_finished k.finishes sink sink_now status
  pub spares : status ≡ Memory → CallSpares given k sink sink_now
