use Rattle.std.proofs.Common.{◌≡◌, ◌+◌, ◌≤◌, drop}
use Rattle.ts_certificate.specs.Certificate.{checked_count}
use Rattle.ts_run.proofs.sample.checked_lines.Given as goal

abbrev pub invariant-loop-line : goal.invariant-loop-line
invariant-loop-line l = record {
  checked : l.checked + checked_count (drop l.line-index l.tree) ≡ checked_count l.tree;
  few : l.checked ≤ l.line-index;
}
