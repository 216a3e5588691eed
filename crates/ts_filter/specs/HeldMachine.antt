-- The machine of tables, lent or their own.
use Rattle.ts_glue.specs.declared.machine.Machine.{Machine}
use Rattle.ts_filter.specs.declared.held_machine.HeldMachine.{HeldMachine}
use Rattle.ts_filter.specs.declared.held_machine.HeldMachine.TheVariants.{Lent, Own}

abbrev pub machine_in : HeldMachine → Machine
machine_in (Lent m) = m.now
machine_in (Own m) = m
