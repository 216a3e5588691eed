use Rattle.std.proofs.Common.{◌≡◌, map, take}
use Rattle.ts_pattern.specs.Entries.{survivors}
use Rattle.ts_pattern.specs.Plans.{plain_live}
use Rattle.ts_validate.specs.Numbers.{numbers}
use Rattle.ts_validate.proofs.step.left.Given as goal

abbrev pub invariant-loop-entry : goal.invariant-loop-entry
invariant-loop-entry l = map (λ e. plain_live e) l.kept.items ≡ survivors (numbers l.table) l.letter (map (λ e. plain_live e) (take l.entry-index l.live))
