use Rattle.std.proofs.Common.{◌≡◌, ◌++◌, map, drop}
use Rattle.std.specs.Fmt.{signed_decimal}
use Rattle.ts_base.specs.Words.{behind}
use Rattle.ts_certificate.proofs.write.push_values.Given as goal

abbrev pub invariant-loop-v : goal.invariant-loop-v
invariant-loop-v l = l.text.items ++ behind (map signed_decimal (drop l.v-index l.values)) ≡ l.fn.text.items ++ behind (map signed_decimal l.values)
