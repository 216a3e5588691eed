use Rattle.std.proofs.Common.{◌≡◌, take}
use Rattle.ts_pattern.specs.Closed.{retag_entries}
use Rattle.ts_validate.specs.Numbers.{plain_lives}
use Rattle.ts_user.specs.Numbered.{live_numbers}
use Rattle.ts_user.proofs.step.retagged.Given as goal

abbrev pub invariant-loop-entry : goal.invariant-loop-entry
invariant-loop-entry l = record {
  value : plain_lives l.live.items ≡ retag_entries l.phase l.free (plain_lives (take l.entry-index l.kept));
  numbers : live_numbers l.live.items ≡ live_numbers (take l.entry-index l.kept);
}
