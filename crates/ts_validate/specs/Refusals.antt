-- Why a plan isn't closed: the least reached configuration at which a check fails, the first letter there, and the
-- signs that lead to it.
use Rattle.std.specs.Prelude.{ℕ, ◌<◌, List, length}
use Rattle.ts_base.specs.declared.letter.Letter.{Letter}
use Rattle.ts_regex.specs.Shape.{Shape}
use Rattle.ts_pattern.specs.Closed.{Subject, LeadsTo, IsReached, IsClosed}
use Rattle.ts_validate.specs.declared.stop.ValidateStop.{ValidateStop}
use Rattle.ts_validate.specs.declared.stop.ValidateStop.TheVariants.{Refused, Memory}
use Rattle.ts_validate.specs.Reaches.{value_at, AllMeet, FailsFirst}

pub record IsRefusal (s : Subject Shape) (configuration : ℕ) (letter : Letter) (signature : List Letter) : Type 0 where
  pub listed : configuration < length s.configurations
  pub leads : LeadsTo s signature (value_at s configuration)
  pub fails : FailsFirst s configuration letter
  pub least : (i : ℕ) → i < configuration → IsReached s (value_at s i) → AllMeet s i
  pub refutes : IsClosed s → ⊥

abbrev pub IsStop : Subject Shape → ValidateStop → Type 0
IsStop s (Refused configuration letter signature) = IsRefusal s configuration letter signature.items
IsStop s Memory = Unit {0}
