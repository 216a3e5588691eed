use Rattle.std.proofs.Common.{◌≡◌, ◌++◌, drop}
use Rattle.std.specs.List.{zip}
use Rattle.ts_model.specs.Views.{model_parts}
use Rattle.ts_run.specs.Verdict.{names_of, value_lines}
use Rattle.ts_run.proofs.verdict.push_values.Given as goal

abbrev pub invariant-loop-k : goal.invariant-loop-k
invariant-loop-k l =
    l.text.items ++ value_lines (zip (drop l.k (names_of (model_parts l.model))) (drop l.k l.values)) ≡ l.initial.text.items ++ value_lines
    (zip (names_of (model_parts l.model)) l.values)
