use Rattle.std.proofs.Common.{◌≡◌, ◌++◌, drop}
use Rattle.ts_model.specs.Judgement.{insides}
use Rattle.ts_compile.proofs.judging.insides.Given as goal

abbrev pub invariant-loop-k : goal.invariant-loop-k
invariant-loop-k l = l.inside.items ++ insides (drop l.k l.cells) (drop l.k l.series) ≡ insides l.cells l.series
