use Rattle.std.proofs.Common.{◌≡◌, ◌+◌, drop}
use Rattle.ts_certificate.specs.Certificate.{checked_count, open_count}
use Rattle.ts_certificate.proofs.write.counts_of.Given as goal

abbrev pub invariant-loop-line : goal.invariant-loop-line
invariant-loop-line l = record {
  checked : l.checked + checked_count (drop l.line-index l.tree) ≡ checked_count l.tree;
  unsearched : l.unsearched + open_count (drop l.line-index l.tree) ≡ open_count l.tree;
  all : l.checked + l.unsearched ≡ l.line-index;
}
