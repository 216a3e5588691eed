use Rattle.std.proofs.Common.{◌<◌}
use Rattle.std.specs.List.{AllByRecursion}
use Rattle.ts_model.specs.declared.model.Require.{Require}
use Rattle.ts_machine_tests.proofs.told.drops.requirements_of.Given as goal

abbrev pub invariant-loop-part : goal.invariant-loop-part
invariant-loop-part l = AllByRecursion (λ (r : Require). r.term < l.terms) l.requirements.items
