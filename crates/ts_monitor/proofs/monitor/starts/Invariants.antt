use Rattle.std.proofs.Common.{◌≡◌, ◌++◌, drop, map}
use Rattle.ts_automaton.specs.AutomatonRun.{standing_of, start_of}
use Rattle.ts_glue.specs.Machines.{forward_of}
use Rattle.ts_monitor.proofs.monitor.starts.Given as goal

abbrev pub invariant-loop-place : goal.invariant-loop-place
invariant-loop-place l =
    let all = map start_of (map forward_of l.machines) in map standing_of l.runs.items ++ drop l.place all ≡ all
