use Rattle.std.proofs.Common.{◌≡◌, take}
use Rattle.ts_domain.specs.BoxSeries.{IsBox}
use Rattle.ts_domain.proofs.boxed.Boxed.new.Given as goal

abbrev pub invariant-loop-domain : goal.invariant-loop-domain
invariant-loop-domain l = record {
  copied : l.copies.items ≡ take l.domain-index l.cells;
  domains : IsBox l.copies.items;
}
