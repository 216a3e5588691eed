use Rattle.std.proofs.Common.{◌≡◌, map, take}
use Rattle.ts_validate.specs.Numbers.{kept_at}
use Rattle.ts_validate.proofs.step.seen.Given as goal

abbrev pub invariant-loop-entry : goal.invariant-loop-entry
invariant-loop-entry l = l.seen.items ≡ map (λ e. kept_at l.table e) (take l.entry-index l.kept)
