use Rattle.std.proofs.Common.{◌≡◌, ◌++◌, drop}
use Rattle.ts_model.specs.Judgement.{holdings}
use Rattle.ts_compile.proofs.judging.holdings.Given as goal

abbrev pub invariant-loop-require : goal.invariant-loop-require
invariant-loop-require l = l.holding.items ++ holdings l.values (drop l.require-index l.requirements) ≡ holdings l.values l.requirements
