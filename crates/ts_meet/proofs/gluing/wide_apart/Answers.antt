use Rattle.std.proofs.Common.{true, false, sym, subst}
use Rattle.ts_automaton.specs.Registers.{spans_of}
use Rattle.ts_glue.specs.Glue.{apart, glue_in}
use Rattle.ts_hull.specs.Sealed.{sealed_spans}
use Rattle.ts_row.specs.Rows.{lanes_of}
use Rattle.ts_sweep.specs.Packed.{IsPackOf, unpacked}
use Rattle.ts_sweep.specs.Sides.{lane_count, sides}
use Rattle.ts_meet.specs.SideLaws.{cell_packs, plain_packs}
use Rattle.ts_meet.specs.Sides.{AreSomeEnds, ArePackOf, TakesPlain, ends_in, plain_values, pointed_spans}
use Rattle.ts_meet.proofs.Gluings.{glued_packs, plain_apart, told}
use Rattle.ts_meet.proofs.Pointed.{lanes_pack, lanes_some}
use Rattle.ts_meet.proofs.gluing.wide_apart.Goals as goal

pub answers_held-requires : goal.answers_held-requires
answers_held-requires g c =
    let s = sides g.row.N in let n = lane_count g.row.N in let given = c.requires in let f = c.apart-gluing.result in
    let made = c.apart-gluing.ensures in
    let xs = lanes_of g.row.N c.args.left.now in let ys = lanes_of g.row.N c.args.right.now in
    let a = ends_in c.of-first.result in let b = ends_in c.of-second.result in
    let some_a = subst AreSomeEnds (sym c.of-first.ensures) (lanes_some s n xs given.registers given.left) in
    let some_b = subst AreSomeEnds (sym c.of-second.ensures) (lanes_some s n ys given.registers given.right) in
    let is = c.are_held_plain.ensures c.if-are_held_plain.true in record {
      takes = plain_apart a b some_a some_b f made.worth is.0 made.apart;
      some_left = some_a;
      some_right = some_b;
      here = is.1;
      there = is.2;
    }

pub returns-then-are_held_plain : goal.returns-then-are_held_plain
returns-then-are_held_plain g c =
    let s = sides g.row.N in let n = lane_count g.row.N in let given = c.requires in let f = c.apart-gluing.result in
    let made = c.apart-gluing.ensures in
    let xs = lanes_of g.row.N c.args.left.now in let ys = lanes_of g.row.N c.args.right.now in
    let a = ends_in c.of-first.result in let b = ends_in c.of-second.result in
    let left = pointed_spans s (spans_of (unpacked xs)) in let right = pointed_spans s (spans_of (unpacked ys)) in
    let some_a = subst AreSomeEnds (sym c.of-first.ensures) (lanes_some s n xs given.registers given.left) in
    let some_b = subst AreSomeEnds (sym c.of-second.ensures) (lanes_some s n ys given.registers given.right) in
    let is = c.are_held_plain.ensures c.if-are_held_plain.true in
    subst (λ o. IsPackOf c.answers_held.result (glue_in sealed_spans left right (apart true o))) made.parts.1
    (subst (λ w. IsPackOf c.answers_held.result (glue_in sealed_spans left right (apart w f.result))) made.parts.0
    (glued_packs plain_values TakesPlain cell_packs plain_packs (told f false) a b made.worth
    (plain_apart a b some_a some_b f made.worth is.0 made.apart) c.answers_held.result
    c.answers_held.ensures left right
    (subst (λ z. ArePackOf z left) (sym c.of-first.ensures) (lanes_pack s n xs given.registers given.left))
    (subst (λ z. ArePackOf z right) (sym c.of-second.ensures) (lanes_pack s n ys given.registers given.right))))
