use Rattle.std.proofs.Common.{◌-◌, length}
use Rattle.ts_validate.specs.Reaches.{IsTour}
use Rattle.ts_validate.specs.Trials.{subject_of}
use Rattle.ts_validate.proofs.arrival.reach.Given as goal

abbrev pub invariant-loop-alloc : goal.invariant-loop-alloc
invariant-loop-alloc l = IsTour (subject_of l.trial) l.tour

abbrev pub decreases-loop-alloc : goal.decreases-loop-alloc
decreases-loop-alloc l = length l.trial.plan.now.configurations.items - length l.tour.failing.items
