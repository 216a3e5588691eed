use Rattle.std.proofs.Common.{true, ap, ◌∙◌, sym, subst}
use Rattle.ts_automaton.specs.Registers.{spans_of}
use Rattle.ts_glue.specs.Glue.{GlueTakes, fold_of, glue_in, join_of}
use Rattle.ts_row.specs.Rows.{lanes_of}
use Rattle.ts_sweep.specs.Packed.{unpacked}
use Rattle.ts_sweep.specs.Sides.{lane_count, sides}
use Rattle.ts_meet.specs.Joints.{IsPlain, part_by}
use Rattle.ts_meet.specs.SideLaws.{cell_packs, plain_packs}
use Rattle.ts_meet.specs.Sides.{AreSomeEnds, ArePackOf, TakesNear, ends_in, plain_values, pointed_spans, side_of}
use Rattle.ts_meet.proofs.Gluings.{glued_packs, near_joined, told}
use Rattle.ts_meet.proofs.Pointed.{lanes_pack, lanes_some}
use Rattle.ts_meet.proofs.gluing.Gluing.near_joined.Goals as goal

pub joined_near-requires-clause-fits : goal.joined_near-requires-clause-fits
joined_near-requires-clause-fits g c =
    let s = sides g.row.N in let n = lane_count g.row.N in let big = c.requires.registers in let f = c.args.self in
    let xs = lanes_of g.row.N c.args.left.now in let ys = lanes_of g.row.N c.args.right.now in
    let a = ends_in c.of.result in let b = ends_in c.of-2.result in
    subst (λ w. GlueTakes TakesNear plain_values a b (join_of f.result (fold_of w (g.K.Folding.fold c.args.k) (part_by f)))) (sym c.requires.wide)
    (subst (λ o. GlueTakes TakesNear plain_values a b (join_of f.result (fold_of f.wide o (part_by f)))) (sym c.requires.fold)
    (near_joined a b
    (subst AreSomeEnds (sym c.of.ensures) (lanes_some s n xs big c.requires.left))
    (subst AreSomeEnds (sym c.of-2.ensures) (lanes_some s n ys big c.requires.right)) f c.requires.worth
    (subst (λ z. IsPlain f z b) (sym c.of.ensures)
    (subst (IsPlain f (side_of s xs)) (sym c.of-2.ensures) c.requires.plain)) c.requires.joined))

pub returns : goal.returns
returns g c =
    let s = sides g.row.N in let n = lane_count g.row.N in let big = c.requires.registers in let f = c.args.self in
    let xs = lanes_of g.row.N c.args.left.now in let ys = lanes_of g.row.N c.args.right.now in
    let a = ends_in c.of.result in let b = ends_in c.of-2.result in
    let left = pointed_spans s (spans_of (unpacked xs)) in let right = pointed_spans s (spans_of (unpacked ys)) in
    glued_packs plain_values TakesNear cell_packs (λ o x y u v h p q. plain_packs o x y u v h.0 p q) (told f true) a b c.requires.worth
    (near_joined a b
    (subst AreSomeEnds (sym c.of.ensures) (lanes_some s n xs big c.requires.left))
    (subst AreSomeEnds (sym c.of-2.ensures) (lanes_some s n ys big c.requires.right)) f c.requires.worth
    (subst (λ z. IsPlain f z b) (sym c.of.ensures)
    (subst (IsPlain f (side_of s xs)) (sym c.of-2.ensures) c.requires.plain)) c.requires.joined)
    c.joined_near.result
    (c.joined_near.ensures
    ∙ ap (λ w. glue_in plain_values a b (join_of f.result (fold_of w (g.K.Folding.fold c.args.k) (part_by f)))) c.requires.wide
    ∙ ap (λ o. glue_in plain_values a b (join_of f.result (fold_of f.wide o (part_by f)))) c.requires.fold)
    left right
    (subst (λ z. ArePackOf z left) (sym c.of.ensures) (lanes_pack s n xs big c.requires.left))
    (subst (λ z. ArePackOf z right) (sym c.of-2.ensures) (lanes_pack s n ys big c.requires.right))
