use Rattle.std.proofs.Common.{◌≡◌, ◌≤◌, ◌-◌, length}
use Rattle.ts_base.specs.Windows.{looked_at}
use Rattle.ts_bound.specs.Looks.{first_looked}
use Rattle.ts_glue.specs.Machines.{window_of}
use Rattle.ts_witness.specs.Witnesses.{series_of}
use Rattle.ts_search.specs.Shown.{IsHeld}
use Rattle.ts_search.proofs.Witnessed.{IsInUpTo}
use Rattle.ts_search.proofs.shown.Shown.seat_all.Given as goal

-- the values before cell k are in their domains
abbrev pub invariant-loop-k : goal.invariant-loop-k
invariant-loop-k l = record {
  machine : l.self.machine ≡ l.fn.self.machine;
  cells : l.self.spared.cells ≡ l.fn.self.spared.cells;
  held : IsHeld l.r l.self;
  count : length (series_of l.self.witness) ≡ length (looked_at (window_of l.fn.self.machine.now) l.cells.present);
  from : first_looked (window_of l.fn.self.machine.now) ≤ l.k;
  inside : IsInUpTo (series_of l.self.witness) (looked_at (window_of l.fn.self.machine.now) l.cells.present)
      (l.k - first_looked (window_of l.fn.self.machine.now));
}
