use Rattle.std.proofs.Common.{◌≡◌, ◌≤◌, length}
use Rattle.ts_domain.specs.BoxSeries.{back_to}
use Rattle.ts_domain.proofs.boxed.Boxed.undo.Given as goal

abbrev pub invariant-loop-self : goal.invariant-loop-self
invariant-loop-self l = record {
  back : l.self ≡ back_to (length l.self.earlier) l.fn.self;
  above : l.mark ≤ length l.self.earlier;
  below : length l.self.earlier ≤ length l.fn.self.earlier;
}

abbrev pub decreases-loop-self : goal.decreases-loop-self
decreases-loop-self l = length l.self.earlier
