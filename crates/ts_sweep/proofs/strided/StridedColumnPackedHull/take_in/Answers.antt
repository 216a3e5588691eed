use Rattle.std.proofs.Common.{get_or, map, rules, sym, ap, subst, ◌∙◌}
use Rattle.std.specs.List.{range_with_len}
use Rattle.ts_hull.specs.Hulls.{none}
use Rattle.ts_hull.specs.Sweeps.{hull_in}
use Rattle.ts_sweep.specs.Packed.{unpacked}
use Rattle.ts_sweep.specs.Strided.{AreBeside}
use Rattle.ts_sweep.proofs.Places.{in_column, joined_here, joined_others, joined_beside}
use Rattle.ts_sweep.proofs.strided.StridedColumnPackedHull.take_in.Goals as goal

pub join_at-requires : goal.join_at-requires
join_at-requires g c = (
  search rules,
  (
    c.requires.whole.0,
    (
      c.requires.whole.1,
      (
        in_column c.args.self.states c.args.self.state c.args.self.count c.args.i c.args.row.now c.requires.inside,
        (c.requires.whole.2, c.requires.whole.3),
      ),
    ),
  ),
)

pub returns-clause-here : goal.returns-clause-here
returns-clause-here g c =
    ap (λ row. get_or (map (hull_in c.args.self.states c.args.self.state row) (range_with_len 0 c.args.self.count)) c.args.i none) c.join_at.ensures
    ∙ joined_here c.args.self.states c.args.self.state c.args.self.count c.args.i c.args.row.now (unpacked c.args.h.at) c.requires.whole.2 c.requires.whole.3
    (in_column c.args.self.states c.args.self.state c.args.self.count c.args.i c.args.row.now c.requires.inside)

pub returns-clause-others : goal.returns-clause-others
returns-clause-others g c k apart =
    ap (λ row. get_or (map (hull_in c.args.self.states c.args.self.state row) (range_with_len 0 c.args.self.count)) k none) c.join_at.ensures
    ∙ joined_others c.args.self.states c.args.self.state c.args.self.count c.args.i c.args.row.now (unpacked c.args.h.at) c.requires.whole.2 k apart

pub returns-clause-beside : goal.returns-clause-beside
returns-clause-beside g c =
    subst (AreBeside c.args.self.state c.args.self.states c.args.self.count c.args.row.now) (sym c.join_at.ensures)
    (joined_beside c.args.self.states c.args.self.state c.args.self.count c.args.i c.args.row.now (unpacked c.args.h.at)
    (in_column c.args.self.states c.args.self.state c.args.self.count c.args.i c.args.row.now c.requires.inside))
