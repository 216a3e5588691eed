use Rattle.std.proofs.Common.{◌≡◌, ◌⊎◌, false, sym, subst, ◌∙◌, rules}
use Rattle.ts_automaton.specs.Registers.{spans_of}
use Rattle.ts_row.specs.Rows.{lanes_of}
use Rattle.ts_sweep.specs.MoveLaws.{not_nothing, some_unpacked}
use Rattle.ts_sweep.specs.Packed.{unpacked}
use Rattle.ts_sweep.specs.Sides.{BothEnds, lane_count, sides}
use Rattle.ts_meet.specs.Joints.{expression}
use Rattle.ts_meet.proofs.Marks.{keeps}
use Rattle.ts_meet.proofs.Meeting.{none_there, pair_taken, part_none}
use Rattle.ts_meet.proofs.meets.with_pair.Goals as goal

pub returns-then-not-is_some : goal.returns-then-not-is_some
returns-then-not-is_some g c p s h stands =
    let xs = lanes_of g.row.N c.args.right.now in
    keeps c.args.hull s _ stands
    (part_none (sides g.row.N) p c.args.q c.args.r (spans_of (unpacked (lanes_of g.row.N c.args.left.now))) (spans_of (unpacked xs))
    c.args.spot.value c.args.spot.cells
    (none_there (lane_count g.row.N) xs c.requires.registers c.requires.right (sym c.is_some.ensures ∙ c.if-not-is_some.true)))

pub glued-glued-requires : goal.glued-glued-requires
glued-glued-requires g c =
    let some = not_nothing (lane_count g.row.N) (lanes_of g.row.N c.args.right.now) (sym c.is_some.ensures ∙ c.if-not-is_some.false) c.requires.right in
    let alone = subst (λ w. (sides g.row.N ≡ BothEnds) ⊎ (w ≡ false)) (sym c.gluing.ensures.wide) c.requires.alone in
    (search rules, (c.requires.registers, (alone, (c.requires.left, (some, c.gluing.ensures.worth)))))

pub marked-requires : goal.marked-requires
marked-requires g c = c.glued-glued.ensures.some

pub returns : goal.returns
returns g c p s h stands =
    let xs = lanes_of g.row.N c.args.left.now in let ys = lanes_of g.row.N c.args.right.now in
    pair_taken (sides g.row.N) p c.args.joints.now c.args.q c.args.r (spans_of (unpacked xs)) (spans_of (unpacked ys)) c.args.spot.value c.args.spot.cells
    (expression c.gluing.result) c.args.hull c.glued-glued.result c.marked.result c.joined.result s h
    (some_unpacked (lane_count g.row.N) xs c.requires.registers c.requires.left)
    (some_unpacked (lane_count g.row.N) ys c.requires.registers
    (not_nothing (lane_count g.row.N) ys (sym c.is_some.ensures ∙ c.if-not-is_some.false) c.requires.right))
    (c.gluing.ensures.value p h) c.glued-glued.ensures c.marked.ensures c.joined.ensures stands
