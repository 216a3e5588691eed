-- Standard input and output, which count what fails.
use Rattle.std.specs.Prelude.{ℕ, Bool}

-- a reader, how many of its reads failed, and how many found the end
pub record InputState (R : Type 0) : Type 0 where
  pub inner : R
  pub faults : ℕ
  pub ends : ℕ

-- a writer, how many of its calls failed, whether it is finished, and the calls of `finish` so far
pub record OutputState (W : Type 0) : Type 0 where
  pub inner : W
  pub faults : ℕ
  pub finished : Bool
  pub finishes : ℕ
