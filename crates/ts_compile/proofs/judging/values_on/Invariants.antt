use Rattle.std.proofs.Common.{◌≡◌, ◌++◌, drop}
use Rattle.ts_model.specs.Views.{model_parts}
use Rattle.ts_model.specs.Meets.{values_on}
use Rattle.ts_compile.proofs.judging.values_on.Given as goal

abbrev pub invariant-loop-k : goal.invariant-loop-k
invariant-loop-k l = l.values.items ++ drop l.k (values_on (model_parts l.model) l.series) ≡ values_on (model_parts l.model) l.series
