use Rattle.std.proofs.Common.{◌≡◌, map}
use Rattle.ts_automaton.specs.AutomatonRun.{standing_of}
use Rattle.ts_glue.specs.Machines.{forward_of}
use Rattle.ts_monitor.proofs.Moves.{moved_to}
use Rattle.ts_monitor.proofs.monitor.move_all.Given as goal

abbrev pub invariant-loop-place : goal.invariant-loop-place
invariant-loop-place l =
    map standing_of l.runs.items
    ≡ moved_to l.place (map forward_of l.fn.machines) (map standing_of l.fn.runs.items) l.fn.this l.fn.next
