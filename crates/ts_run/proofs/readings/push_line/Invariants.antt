use Rattle.std.proofs.Common.{◌≡◌, ℤ, ℕ, List, ◌++◌, drop, length, map}
use Rattle.std.specs.Fmt.{decimal}
use Rattle.ts_base.specs.Text.{ext_text}
use Rattle.ts_base.specs.Words.{behind}
use Rattle.ts_model.specs.Meets.{values_on}
use Rattle.ts_model.specs.ModelParts.{ModelParts}
use Rattle.ts_monitor.specs.Monitors.{StandsFor}
use Rattle.ts_run.specs.Watching.{HasTerms}
use Rattle.ts_run.proofs.readings.push_line.Given as goal

abbrev pub invariant-loop-term : goal.invariant-loop-term
invariant-loop-term l = record {
  text : (m : ModelParts) (xs : List ℤ) → StandsFor l.monitor xs → HasTerms m l.monitor → l.text.items ++ behind (map ext_text (drop l.term (values_on m xs)))
      ≡ l.fn.text.items ++ (decimal (length xs) ++ behind (map ext_text (values_on m xs)));
  front : (front : List ℕ) × (l.text.items ≡ l.fn.text.items ++ front);
}
