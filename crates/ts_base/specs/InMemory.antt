-- A source and a sink in memory, which fail at the calls that they were told to fail at.
use Rattle.std.specs.Prelude.{ℕ, Bool, true, false, List, ◌++◌, drop}
use Rattle.ts_base.specs.Outside.{ends_after, one_more}

-- the bytes left, the most that a call gives, the numbers of the calls that fail, the calls, the faults and the reads
-- that found the end so far
pub record SourceState : Type 0 where
  pub left : List ℕ
  pub step : ℕ
  pub fails : List ℕ
  pub calls : ℕ
  pub faults : ℕ
  pub ends : ℕ

-- after a call that gave m bytes into a buffer with this room
abbrev pub after_giving : ℕ → ℕ → SourceState → SourceState
after_giving room m s =
    record s { left = drop m s.left; calls = one_more s.calls; ends = ends_after room m s.ends }

-- after a call that failed
abbrev pub after_refusing : SourceState → SourceState
after_refusing s = record s { calls = one_more s.calls; faults = one_more s.faults }

-- the bytes taken, the room that is kept for them, the most that a call takes, the numbers of the calls that fail, the
-- calls and faults so far, whether it is finished, and the calls of `finish` so far
pub record SinkState : Type 0 where
  pub taken : List ℕ
  pub room : ℕ
  pub step : ℕ
  pub fails : List ℕ
  pub calls : ℕ
  pub faults : ℕ
  pub finished : Bool
  pub finishes : ℕ

-- after a write that took a piece, with the room that there is then
abbrev pub after_taking : List ℕ → ℕ → SinkState → SinkState
after_taking piece room s =
    record s { taken = s.taken ++ piece; room = room; calls = one_more s.calls; finished = false }

-- after a write that failed, with the room that there is then
abbrev pub after_failed_write : ℕ → SinkState → SinkState
after_failed_write room s =
    record s { room = room; calls = one_more s.calls; faults = one_more s.faults; finished = false }

-- after a finish that went well
abbrev pub after_finish : SinkState → SinkState
after_finish s = record s { calls = one_more s.calls; finished = true; finishes = one_more s.finishes }

-- after a finish that failed
abbrev pub after_failed_finish : SinkState → SinkState
after_failed_finish s =
    record s { calls = one_more s.calls; faults = one_more s.faults; finished = false; finishes = one_more s.finishes }
