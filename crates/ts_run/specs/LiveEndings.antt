-- How a call ends that reads pieces and writes what they owe before it reads on.
use Rattle.std.specs.Prelude.{ℕ, ◌≡◌, ◌<◌, ◌≤◌, ◌+◌, ◌⊎◌, IsSome, List, ◌++◌, length, take, Option, None, IfSome}
use Rattle.ts_base.specs.Outside.{Prefix, Rose, left_after, taken_more}
use Rattle.ts_run.specs.Refusals.{fault_read, refused_length}
use Rattle.ts_run.specs.Reply.{Reply, behind_text}
use Rattle.ts_run.specs.Streams.{Due, IsFront, IsLines}
use Rattle.ts_run.specs.declared.status.Status.{Status}
use Rattle.ts_run.specs.declared.status.Status.TheVariants.{ReadFault, WriteFault, Memory}

-- whole lines of the text were taken
abbrev pub TookLines : List ℕ → Option (List ℕ) → Option (List ℕ) → Type 0
TookLines text before after = (front : List ℕ) × IsFront front text × IsLines front × (after ≡ taken_more before front)

-- how a call ends that gives this reply line by line: the text was taken whole and the status is the reply's; or a
-- write failed, and a prefix of the text was taken; or there was no memory, and whole lines of it were taken
abbrev pub EndsInLines : Reply → Option (List ℕ) → Option (List ℕ) → Status → Type 0
EndsInLines reply before after WriteFault = Prefix reply.text before after
EndsInLines reply before after Memory = TookLines reply.text before after
EndsInLines reply before after status = (after ≡ taken_more before reply.text) × (reply.status ≡ status)

-- the first bytes within the limit, after which more stand
pub record IsOver (limit : ℕ) (bytes first : List ℕ) : Type 0 where
  pub longer : limit < length bytes
  pub front : first ≡ take limit bytes

-- a reply to an input that comes as a stream: one to all its bytes, where they are within the limit; one to those
-- within it, where these have ended the stream, whatever stands beyond; else what they owe, and the refusal of the
-- length
abbrev pub StreamReplies : ℕ → (List ℕ → Reply → Type 0) → (List ℕ → Due) → List ℕ → Reply → Type 0
StreamReplies limit Is due bytes r =
    ((length bytes ≤ limit) × Is bytes r)
    ⊎ ((first : List ℕ) × IsOver limit bytes first × IsSome (due first).ended × Is first r)
    ⊎ ((first : List ℕ) × IsOver limit bytes first × ((due first).ended ≡ None)
    × (r ≡ behind_text (due first).text refused_length))

-- no read failed, and a reply to the bytes was given
pub record StreamGiven (limit : ℕ) (Is : List ℕ → Reply → Type 0) (due : List ℕ → Due) (bytes : List ℕ)
    (before after : Option (List ℕ)) (status : Status) : Type 0 where
  pub reply : Reply
  pub is : StreamReplies limit Is due bytes reply
  pub ends : EndsInLines reply before after status

-- a read failed after these bytes, which had not ended the stream: what they owe was to be given, then `fault read`
pub record StreamBroken (limit : ℕ) (due : List ℕ → Due) (first : List ℕ) (before after : Option (List ℕ))
    (status : Status) : Type 0 where
  pub within : length first ≤ limit
  pub open_still : (due first).ended ≡ None
  pub ends : EndsInLines (behind_text (due first).text fault_read) before after status

-- the last of these reads was begun within the limit, before anything had ended the stream, once all that was owed by
-- then had been taken, and gave no more than a piece
pub record ReadOn (limit : ℕ) (due : List ℕ → Due) (read : List ℕ) (before after : Option (List ℕ)) : Type 0 where
  pub first : List ℕ
  pub front : IsFront first read
  pub near : length read ≤ length first + 65536
  pub within : length first ≤ limit
  pub open_still : (due first).ended ≡ None
  pub written : (more : List ℕ) × (after ≡ taken_more before ((due first).text ++ more))

-- The end of a call over a stream: what the source had left and its faults, what the sink took, and the status. `bytes`
-- are all that the source had left, or some that begin with those that it gave where it doesn't say; `read` are those
-- that it gave.
pub record LiveEnds (limit : ℕ) (Is : List ℕ → Reply → Type 0) (due : List ℕ → Due)
    (left left_now : Option (List ℕ)) (faults faults_now : ℕ) (before after : Option (List ℕ)) (status : Status) :
    Type 0 where
  pub bytes : List ℕ
  pub stated : IfSome left (λ all. all ≡ bytes)
  pub read : List ℕ
  pub front : IsFront read bytes
  pub rest : left_now ≡ left_after (length read) left
  pub most : length read ≤ limit + 1
  pub last : ReadOn limit due read before after
  pub reply : ((faults_now ≡ faults) × StreamGiven limit Is due bytes before after status)
      ⊎ (Rose faults faults_now × StreamBroken limit due read before after status)
  pub fault : status ≡ ReadFault → Rose faults faults_now
