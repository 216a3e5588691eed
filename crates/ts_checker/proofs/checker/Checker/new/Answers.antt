use Rattle.std.proofs.Common.{[], ap, rules, subst}
use Rattle.std.specs.Global.{Vec}
use Rattle.ts_glue.specs.declared.machine.Machine.{Machine}
use Rattle.ts_model.specs.Views.{model_parts}
use Rattle.ts_checker.specs.Checking.{HasChecked}
use Rattle.ts_checker.proofs.LineSteps.{new_sized}
use Rattle.ts_checker.proofs.OfProgram.{tables_are}
use Rattle.ts_checker.proofs.Verdicts.{none_checked}
use Rattle.ts_checker.proofs.checker.Checker.new.Goals as goal

pub returns-clause-checked : goal.returns-clause-checked
returns-clause-checked c = subst (HasChecked []) (search rules) (none_checked (model_parts c.args.m))

pub invariant_of-result : goal.invariant_of-result
invariant_of-result c = (
  tables_are c.in_ok-tables.tables.machines c.into_machines-machines.result.items c.args.p c.args.m c.in_ok-tables.ensures
      (ap (λ (v : Vec Machine). v.items) c.into_machines-machines.ensures) c.requires.program c.requires.whole,
  c.requires.limits.box,
  new_sized (model_parts c.args.m) c.new-3.result c.in_ok-root.root c.deref.result.now c.new-3.ensures c.in_ok-root.ensures c.deref.ensures.value,
)
