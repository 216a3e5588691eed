use Rattle.std.proofs.Common.{false, sym, subst}
use Rattle.ts_automaton.specs.Registers.{spans_of}
use Rattle.ts_row.specs.Rows.{lanes_of}
use Rattle.ts_sweep.specs.Packed.{unpacked}
use Rattle.ts_sweep.specs.Sides.{lane_count, sides}
use Rattle.ts_meet.specs.Joints.{IsPlain}
use Rattle.ts_meet.specs.Peaks.{IsHeldBy}
use Rattle.ts_meet.specs.SideLaws.{cell_packs, plain_packs}
use Rattle.ts_meet.specs.Sides.{AreSomeEnds, ArePackOf, TakesPlain, ends_in, plain_values, pointed_spans, side_of}
use Rattle.ts_meet.proofs.Gluings.{glued_packs, plain_apart, told}
use Rattle.ts_meet.proofs.Pointed.{lanes_pack, lanes_some}
use Rattle.ts_meet.proofs.gluing.Gluing.held_apart.Goals as goal

pub answers_held-requires : goal.answers_held-requires
answers_held-requires g c =
    let s = sides g.row.N in let n = lane_count g.row.N in let given = c.requires in let f = c.args.self in
    let xs = lanes_of g.row.N c.args.left.now in let ys = lanes_of g.row.N c.args.right.now in
    let a = ends_in c.of.result in let b = ends_in c.of-2.result in
    let some_a = subst AreSomeEnds (sym c.of.ensures) (lanes_some s n xs given.registers given.left) in
    let some_b = subst AreSomeEnds (sym c.of-2.ensures) (lanes_some s n ys given.registers given.right) in
    record {
      takes = plain_apart a b some_a some_b f given.worth
          (subst (λ z. IsPlain f z b) (sym c.of.ensures) (subst (IsPlain f (side_of s xs)) (sym c.of-2.ensures) given.held.0)) given.apart;
      some_left = some_a;
      some_right = some_b;
      here = subst (λ z. IsHeldBy f.wide f.result c.args.here z.c) (sym c.of.ensures) given.held.1;
      there = subst (λ z. IsHeldBy f.wide f.result c.args.there z.c) (sym c.of-2.ensures) given.held.2;
    }

pub returns : goal.returns
returns g c =
    let s = sides g.row.N in let n = lane_count g.row.N in let given = c.requires in let f = c.args.self in
    let xs = lanes_of g.row.N c.args.left.now in let ys = lanes_of g.row.N c.args.right.now in
    let a = ends_in c.of.result in let b = ends_in c.of-2.result in
    let left = pointed_spans s (spans_of (unpacked xs)) in let right = pointed_spans s (spans_of (unpacked ys)) in
    let some_a = subst AreSomeEnds (sym c.of.ensures) (lanes_some s n xs given.registers given.left) in
    let some_b = subst AreSomeEnds (sym c.of-2.ensures) (lanes_some s n ys given.registers given.right) in
    glued_packs plain_values TakesPlain cell_packs plain_packs (told f false) a b given.worth
    (plain_apart a b some_a some_b f given.worth
    (subst (λ z. IsPlain f z b) (sym c.of.ensures) (subst (IsPlain f (side_of s xs)) (sym c.of-2.ensures) given.held.0)) given.apart)
    c.answers_held.result c.answers_held.ensures left right
    (subst (λ z. ArePackOf z left) (sym c.of.ensures) (lanes_pack s n xs given.registers given.left))
    (subst (λ z. ArePackOf z right) (sym c.of-2.ensures) (lanes_pack s n ys given.registers given.right))
