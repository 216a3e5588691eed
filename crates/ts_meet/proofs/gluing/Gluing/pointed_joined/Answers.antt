use Rattle.std.proofs.Common.{true, sym, subst}
use Rattle.ts_automaton.specs.Registers.{spans_of}
use Rattle.ts_row.specs.Rows.{lanes_of}
use Rattle.ts_sweep.specs.Packed.{unpacked}
use Rattle.ts_sweep.specs.Sides.{lane_count, sides}
use Rattle.ts_meet.specs.Joints.{joined_expression}
use Rattle.ts_meet.specs.SideLaws.{cell_packs, clamped_packs, plain_packs}
use Rattle.ts_meet.specs.Sides.{AreSomeEnds, ArePackOf, TakesAny, TakesPlain, clamped_values, ends_in, plain_values, pointed_spans}
use Rattle.ts_meet.proofs.Gluings.{any_takes, glued_packs, plain_joined, told}
use Rattle.ts_meet.proofs.Pointed.{lanes_pack, lanes_some}
use Rattle.ts_meet.proofs.gluing.Gluing.pointed_joined.Goals as goal

pub joined_by-requires-clause-fits : goal.joined_by-requires-clause-fits
joined_by-requires-clause-fits g c =
    let s = sides g.row.N in let n = lane_count g.row.N in let big = c.requires.registers in
    let xs = lanes_of g.row.N c.args.left.now in let ys = lanes_of g.row.N c.args.right.now in
    let a = ends_in c.of-first.result in let b = ends_in c.of-second.result in
    plain_joined a b
    (subst AreSomeEnds (sym c.of-first.ensures) (lanes_some s n xs big c.requires.left))
    (subst AreSomeEnds (sym c.of-second.ensures) (lanes_some s n ys big c.requires.right)) c.args.self c.requires.worth
    (c.is_soon_plain.ensures c.if-is_soon_plain.true) c.requires.joined

pub joined_by-requires-else-is_soon_plain-clause-fits : goal.joined_by-requires-else-is_soon_plain-clause-fits
joined_by-requires-else-is_soon_plain-clause-fits g c =
    any_takes clamped_values (ends_in c.of-first.result) (ends_in c.of-second.result) (joined_expression c.args.self)

pub returns-then-is_soon_plain : goal.returns-then-is_soon_plain
returns-then-is_soon_plain g c =
    let s = sides g.row.N in let n = lane_count g.row.N in let big = c.requires.registers in
    let xs = lanes_of g.row.N c.args.left.now in let ys = lanes_of g.row.N c.args.right.now in
    let a = ends_in c.of-first.result in let b = ends_in c.of-second.result in
    let left = pointed_spans s (spans_of (unpacked xs)) in let right = pointed_spans s (spans_of (unpacked ys)) in
    glued_packs plain_values TakesPlain cell_packs plain_packs (told c.args.self true) a b c.requires.worth
    (plain_joined a b
    (subst AreSomeEnds (sym c.of-first.ensures) (lanes_some s n xs big c.requires.left))
    (subst AreSomeEnds (sym c.of-second.ensures) (lanes_some s n ys big c.requires.right)) c.args.self c.requires.worth
    (c.is_soon_plain.ensures c.if-is_soon_plain.true) c.requires.joined)
    c.joined_by.result c.joined_by.ensures left right
    (subst (λ z. ArePackOf z left) (sym c.of-first.ensures) (lanes_pack s n xs big c.requires.left))
    (subst (λ z. ArePackOf z right) (sym c.of-second.ensures) (lanes_pack s n ys big c.requires.right))

pub returns-else-is_soon_plain : goal.returns-else-is_soon_plain
returns-else-is_soon_plain g c =
    let s = sides g.row.N in let n = lane_count g.row.N in let big = c.requires.registers in
    let xs = lanes_of g.row.N c.args.left.now in let ys = lanes_of g.row.N c.args.right.now in
    let a = ends_in c.of-first.result in let b = ends_in c.of-second.result in
    let left = pointed_spans s (spans_of (unpacked xs)) in let right = pointed_spans s (spans_of (unpacked ys)) in
    glued_packs clamped_values TakesAny cell_packs (λ o x y s t h p q. clamped_packs o x y s t p q) (told c.args.self true) a b c.requires.worth
    (any_takes clamped_values a b (joined_expression c.args.self)) c.joined_by-else-is_soon_plain.result c.joined_by-else-is_soon_plain.ensures left right
    (subst (λ z. ArePackOf z left) (sym c.of-first.ensures) (lanes_pack s n xs big c.requires.left))
    (subst (λ z. ArePackOf z right) (sym c.of-second.ensures) (lanes_pack s n ys big c.requires.right))
