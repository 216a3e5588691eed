use Rattle.std.proofs.Common.{map, ap, sym, subst, ◌∙◌, arith}
use Rattle.std.proofs.lemmas.Int.{ints}
use Rattle.ts_automaton.specs.AutomatonRun.{start_of}
use Rattle.ts_glue.specs.Machines.{forward_of}
use Rattle.ts_compile.specs.Compiled.{machine_body}
use Rattle.ts_monitor.specs.Monitors.{AllStand}
use Rattle.ts_monitor.proofs.Moves.{starts_stand}
use Rattle.ts_monitor.proofs.monitor.Monitor.new.Goals as goal

pub invariant_of-result : goal.invariant_of-result
invariant_of-result c = (
  omega arith,
  (grind (arith, ints), grind (arith, ints)),
  subst (AllStand (map machine_body c.args.p.terms.items))
      (sym (c.in_ok-runs.ensures ∙ ap (λ ms. map start_of (map forward_of ms)) c.machines.ensures ∙ ap (map start_of) c.args.p.bodies))
      (starts_stand c.args.p.terms.items),
)
