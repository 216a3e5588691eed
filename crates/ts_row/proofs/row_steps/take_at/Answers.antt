use Rattle.std.proofs.Common.{◌≡◌, ◌≤◌, ◌+◌, ◌-◌, ◌*◌, ◌++◌, length, take, drop, ap, arith}
use borrow.Author.Rules.{scaled_fits≤}
use Rattle.ts_row.specs.Takings.{count_in}
use Rattle.ts_row.proofs.row_steps.take_at.Goals as goal

pub offset_bounds-hulls-from : goal.offset_bounds-hulls-from
offset_bounds-hulls-from g c =
    let inside : c.args.m.turn.now.next * c.args.stride ≤ length c.args.hulls.now = omega (arith, c.requires.inside) in
    scaled_fits≤ (c.args.m.turn.now.next * c.args.stride) (length c.args.hulls.now) _ inside c.well_formed.1.1.1.0.1

pub returns : goal.returns
returns g c =
    let at = c.args.m.turn.now.next * c.args.stride in
    let count = count_in c.args.t.now.next_values.now in
    let old = c.args.hulls.now in
    let column = c.take_turn.new.next in
    record {
      column = column;
      packed = c.take_turn.ensures.packed;
      moved = c.take_turn.ensures.moved;
      written = ap (λ k. take at old ++ (column ++ drop k (drop at old))) (let e : at + count - at ≡ count = omega arith in e);
    }
