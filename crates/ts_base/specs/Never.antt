-- A source and a sink in memory that never fail.
use Rattle.std.specs.Prelude.{ℕ, Bool, List, ◌++◌, take, drop, false, true}
use Rattle.ts_base.specs.Outside.{ends_after, one_more}

-- the bytes left, and the reads that found the end so far
pub record BytesState : Type 0 where
  pub left : List ℕ
  pub ends : ℕ

-- after a call that gave m bytes into a buffer with this room
abbrev pub after_sending : ℕ → ℕ → BytesState → BytesState
after_sending room m s = record { left = drop m s.left; ends = ends_after room m s.ends }

-- the bytes kept, how many are kept at the most, whether it is finished, and the calls of `finish` so far
pub record RoomState : Type 0 where
  pub kept : List ℕ
  pub most : ℕ
  pub finished : Bool
  pub finishes : ℕ

-- after a piece was taken, of which those bytes are kept for which there is room
abbrev pub after_keeping : List ℕ → RoomState → RoomState
after_keeping piece s = record s { kept = take s.most (s.kept ++ piece); finished = false }

-- after the writing was ended
abbrev pub after_ending : RoomState → RoomState
after_ending s = record s { finished = true; finishes = one_more s.finishes }
