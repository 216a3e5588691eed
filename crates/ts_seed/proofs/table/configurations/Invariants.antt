use Rattle.std.proofs.Common.{◌≡◌, map, take}
use Rattle.ts_pattern.specs.Plans.{plain_configuration}
use Rattle.ts_seed.specs.Written.{configuration_of}
use Rattle.ts_seed.proofs.table.configurations.Given as goal

abbrev pub invariant-loop-state : goal.invariant-loop-state
invariant-loop-state l =
    map (λ c. plain_configuration c) l.configurations.items ≡ map (λ c. configuration_of c) (take l.state-index l.lines)
