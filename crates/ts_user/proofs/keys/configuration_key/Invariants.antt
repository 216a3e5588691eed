use Rattle.std.proofs.Common.{◌≡◌, ◌∷◌, take}
use Rattle.ts_user.specs.Keys.{entry_keys}
use Rattle.ts_user.proofs.keys.configuration_key.Given as goal

abbrev pub invariant-loop-entry : goal.invariant-loop-entry
invariant-loop-entry l = l.key.items ≡ l.x.state ∷ entry_keys (take l.entry-index l.entry-items)
