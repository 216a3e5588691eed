use Rattle.std.proofs.Common.{◌≡◌, drop}
use Rattle.ts_model.specs.Series.{values_of}
use Rattle.ts_model.specs.Views.{texts}
use Rattle.ts_model.proofs.ValueLaws.{values_ahead}
use Rattle.ts_model.proofs.series.values_of.Given as goal

abbrev pub invariant-loop-word : goal.invariant-loop-word
invariant-loop-word l = values_ahead l.values.items (values_of (texts (drop l.word-index l.words))) ≡ values_of (texts l.words)
