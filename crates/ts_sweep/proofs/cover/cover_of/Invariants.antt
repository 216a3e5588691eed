use Rattle.std.proofs.Common.{◌≡◌, get_or, length}
use Rattle.ts_sweep.specs.Covers.{join_of_all, nothing_of, turned_hull}
use Rattle.ts_sweep.specs.Sides.{BothEnds, sides}
use Rattle.ts_sweep.proofs.cover.cover_of.Given as goal

abbrev pub invariant-loop-i : goal.invariant-loop-i
invariant-loop-i g l = record {
  all : l.all ≡ join_of_all g.row.N (λ i. get_or (g.C.Column.hulls l.from l.row) i (nothing_of g.row.N)) l.i;
  turned : (sides g.row.N ≡ BothEnds → ⊥) → l.turned
      ≡ join_of_all g.row.N (λ i. turned_hull g.row.N (get_or (g.C.Column.hulls l.from l.row) i (nothing_of g.row.N))) l.i;
  long : length l.turned.at ≡ g.row.N;
}
