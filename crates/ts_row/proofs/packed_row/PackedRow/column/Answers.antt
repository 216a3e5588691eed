use Rattle.std.proofs.Common.{◌+◌, ◌*◌, length, slice_range, ap, ◌∙◌, arith}
use Rattle.ts_row.proofs.Columns.{column_inside, column_shown, known_state}
use Rattle.ts_row.proofs.packed_row.PackedRow.column.Goals as goal

pub column_at-requires : goal.column_at-requires
column_at-requires g c =
    let r = c.self.inside in
    let lt = known_state r.states r.stride r.count r.hulls.items c.args.self.now c.self.view_is c.args.q c.requires in
    let inside = column_inside r.states r.stride r.count r.hulls.items c.self.invariant.0 c.self.invariant.1 c.args.q lt in
    let long = c.deref.ensures.len in let same = ap length c.deref.ensures.value in omega (arith, inside, same)

pub returns : goal.returns
returns g c =
    let r = c.self.inside in
    c.column_at.ensures ∙ ap (λ z. slice_range z (c.args.q * r.stride) (c.args.q * r.stride + r.count)) c.deref.ensures.value
    ∙ column_shown r.states r.stride r.count r.hulls.items c.args.self.now c.self.view_is c.args.q c.requires
