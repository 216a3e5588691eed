use Rattle.std.proofs.Common.{length, sym, ap, arith}
use Rattle.ts_row.proofs.Columns.{column_ends, first_filled, known_state}
use Rattle.ts_row.proofs.packed_row.PackedRow.begin.Goals as goal

pub fill_first-requires : goal.fill_first-requires
fill_first-requires g c =
    let r = c.self.inside in
    let room = c.self.invariant.0 in
    let few = c.self.invariant.1 in
    let same = ap length c.deref_mut.ensures.value in
    let ends = column_ends r.stride 0 r.states (known_state r.states r.stride r.count r.hulls.items c.args.self.now c.self.view_is 0 c.requires) in
    omega (arith, room, few, ends, same)

pub returns : goal.returns
returns g c =
    let s = c.self.inside in
    first_filled s.states s.stride s.count s.hulls.items c.deref_mut.result.now c.fill_first.new.hulls c.args.self.now c.args.first s.hulls.len
    c.self.invariant.0 c.self.invariant.1 c.self.view_is c.requires c.deref_mut.ensures.value (sym s.hulls.ok.0) c.fill_first.ensures
