-- What was answered of a text is its reading.
use Rattle.std.proofs.Common.{Ok, Err, subst}
use Rattle.std.specs.Prelude.{Result}
use Rattle.ts_token.specs.Text.{Cut}
use Rattle.ts_user.specs.declared.user_pattern.UserPattern.{UserPattern}
use Rattle.ts_user.specs.declared.user_stop.UserStop.{UserStop}
use Rattle.ts_user.specs.declared.user_stop.UserStop.TheVariants.{Refused, Memory}
use Rattle.ts_user.specs.PatternReading.{IsReading, pattern_in}
use Rattle.ts_user.specs.Views.{Reads, Tells}
use Rattle.ts_user.proofs.ReadingLaws.{reading_is}

pub told : (c : Cut) (r : Result UserPattern UserStop) → Reads r (pattern_in c) → Tells c r
told c (Ok m) e = subst (IsReading c) e (reading_is c)
told c (Err (Refused line kind)) e = subst (IsReading c) e (reading_is c)
told c (Err Memory) e = tt
