-- What a call does to its source and its sink beside what it reads and writes, by its status.
use Rattle.std.specs.Prelude.{ℕ, ◌≡◌, ◌≤◌, ◌⊎◌, Bool, IsTrue}
use Rattle.ts_base.specs.Outside.{Rose, one_more}
use Rattle.ts_run.specs.Reply.{EndsWritten, TellsNoFault}
use Rattle.ts_run.specs.declared.status.Status.{Status}
use Rattle.ts_run.specs.declared.status.Status.TheVariants.{ReadFault, WriteFault}

-- a fault of the source is reported only where one was counted, and none is passed over; nothing is read after it, nor
-- once the end of the source was found
pub record ReadsWell {S : Type 0} (faults : S → ℕ) (is_broken : S → Bool) (ends : S → ℕ) (old new : S)
    (status : Status) : Type 0 where
  pub fault : status ≡ ReadFault → Rose (faults old) (faults new)
  pub broken : status ≡ ReadFault → IsTrue (is_broken new)
  pub before : status ≡ ReadFault → ends new ≡ ends old
  pub stops : (ends new ≡ ends old) ⊎ (ends new ≡ one_more (ends old))
  pub calm : TellsNoFault status → faults new ≡ faults old
  pub later : faults old ≤ faults new

-- a fault of the sink is reported only where one was counted, and none is passed over; what was written is finished
-- once
pub record WritesWell {K : Type 0} (faults : K → ℕ) (is_broken is_finished : K → Bool) (finishes : K → ℕ)
    (old new : K) (status : Status) : Type 0 where
  pub fault : status ≡ WriteFault → Rose (faults old) (faults new)
  pub broken : status ≡ WriteFault → IsTrue (is_broken new)
  pub calm : EndsWritten status → faults new ≡ faults old
  pub done : EndsWritten status → IsTrue (is_finished new)
  pub once : EndsWritten status → finishes new ≡ one_more (finishes old)
  pub later : faults old ≤ faults new
