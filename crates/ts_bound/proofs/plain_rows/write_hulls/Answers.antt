use Rattle.std.proofs.Common.{length, get_or, [], refl, ◌%◌, rules, arith}
use Rattle.ts_row.specs.Rows.{flat_row}
use Rattle.ts_bound.proofs.PlainRows.{hull_there, place_inside, written_all, written_more}
use Rattle.ts_bound.proofs.plain_rows.write_hulls.Goals as goal

pub hull-requires : goal.hull-requires
hull-requires g c =
    let view = c.args.view.now in let count = length (get_or view 0 []) in
    let inside = place_inside g.row.N c.args.states count view c.loop-p.p c.requires.registers c.requires.some
    (omega (arith, c.loop-p-test.true, c.requires.len)) in
    let t = inside.0 in let j = inside.1 in let states = c.requires.is_row.len in
    let long = (c.requires.is_row.columns (c.loop-p.p % c.args.states) t).0 in
    (search rules, (search rules, (omega (arith, t, states), omega (arith, j, long))))

pub loop-p-preserved : goal.loop-p-preserved
loop-p-preserved g c =
    let view = c.args.view.now in let count = length (get_or view 0 []) in
    written_more c.args.row.now (flat_row g.row.N c.args.states count view) c.loop-p.p c.loop-p.row _ c.unpacked.result c.loop-p-test.true
    (hull_there g.row.N c.args.states count view c.loop-p.p c.requires.registers c.requires.some c.hull.result.now c.unpacked.result
    (omega (arith, c.loop-p-test.true, c.requires.len)) c.hull.ensures c.unpacked.ensures)
    refl c.loop-p.invariant

pub returns : goal.returns
returns g c =
    let view = c.args.view.now in
    written_all c.args.row.now (flat_row g.row.N c.args.states (length (get_or view 0 [])) view) c.loop-p.p c.loop-p.row c.requires.len
    c.loop-p-test.false c.loop-p.invariant
