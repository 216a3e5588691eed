use Rattle.std.proofs.Common.{◌+◌, ◌*◌, rules, sym, ap, ◌∙◌, arith}
use Rattle.std.proofs.lemmas.List.FromFn.{get_or-map-range_with_len}
use Rattle.ts_sweep.specs.Strided.{packed_at}
use Rattle.ts_sweep.proofs.Places.{in_column}
use Rattle.ts_sweep.proofs.strided.StridedColumnPackedHull.hull.Goals as goal

pub hull_at-requires : goal.hull_at-requires
hull_at-requires g c = (
  search rules,
  (
    c.requires.whole.0,
    (
      c.requires.whole.1,
      (
        in_column c.args.self.states c.args.self.state c.args.self.count c.args.i c.args.row.now c.requires.inside,
        (c.requires.whole.2, (c.requires.whole.3, (c.requires.readable (c.args.i * c.args.self.states + c.args.self.state)).small)),
      ),
    ),
  ),
)

pub returns : goal.returns
returns g c =
    ap (λ xs. record { at = xs }) c.hull_at.ensures
    ∙ sym (get_or-map-range_with_len (packed_at g.row.N c.args.self.states c.args.self.state c.args.row.now) 0 c.args.self.count
    c.args.i c.args.i _ (in_column c.args.self.states c.args.self.state c.args.self.count c.args.i c.args.row.now c.requires.inside) (omega arith))
