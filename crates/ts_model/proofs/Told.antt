-- What was told of a text is its reading.
use Rattle.std.proofs.Common.{Ok, Err, subst}
use Rattle.std.specs.Prelude.{Result, IfOk}
use Rattle.ts_token.specs.Text.{Cut}
use Rattle.ts_model.specs.declared.model.Model.{Model}
use Rattle.ts_model.specs.declared.error.ModelStop.{ModelStop}
use Rattle.ts_model.specs.declared.error.ModelStop.TheVariants.{Refused, Memory}
use Rattle.ts_model.specs.declared.model.Need.{Need}
use Rattle.ts_model.specs.ModelReading.{IsReading, reading}
use Rattle.ts_model.specs.Promise.{IsWhole, KeepsLimits}
use Rattle.ts_model.specs.Views.{model_parts, Reads, Tells}
use Rattle.ts_model.proofs.FitLaws.{whole_stated, limits_stated}
use Rattle.ts_model.proofs.ReadingLaws.{reading_is}

pub told : (need : Need) (c : Cut) (r : Result Model ModelStop) → Reads r (reading need c) → Tells need c r
told need c (Ok m) e = subst (IsReading need c) e (reading_is need c)
told need c (Err (Refused line kind)) e = subst (IsReading need c) e (reading_is need c)
told need c (Err Memory) e = tt

-- what is read is whole, and keeps the limits

pub whole_read : (need : Need) (c : Cut) (r : Result Model ModelStop) → Reads r (reading need c) → IfOk r (λ m. IsWhole (model_parts m))
whole_read need c (Ok m) e = whole_stated need c (model_parts m) e
whole_read need c (Err stop) e = tt

pub limits_read : (need : Need) (c : Cut) (r : Result Model ModelStop) → Reads r (reading need c) → IfOk r (λ m. KeepsLimits need (model_parts m))
limits_read need c (Ok m) e = limits_stated need c (model_parts m) e
limits_read need c (Err stop) e = tt
