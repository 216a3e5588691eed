use Rattle.std.proofs.Common.{◌≡◌, ◌++◌, replicate}
use Rattle.ts_certificate.specs.declared.certificate.TreeLine.TheVariants.{Unsearched}
use Rattle.ts_search.proofs.best.push_open.Given as goal

abbrev pub invariant-loop : goal.invariant-loop
invariant-loop l = l.lines.items ≡ l.fn.lines.items ++ replicate l.counter Unsearched
