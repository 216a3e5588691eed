use Rattle.std.proofs.Common.{sym, ◌∙◌, subst, rules}
use Rattle.ts_base.specs.declared.span.Span.{Span}
use Rattle.ts_automaton.specs.SpanRun.{marked_span}
use Rattle.ts_automaton.specs.Registers.{spans_of}
use Rattle.ts_row.specs.Rows.{lanes_of}
use Rattle.ts_sweep.specs.MoveLaws.{not_nothing, some_unpacked}
use Rattle.ts_sweep.specs.Packed.{IsPackOf, unpacked}
use Rattle.ts_sweep.specs.Sides.{lane_count, sides}
use Rattle.ts_meet.specs.Joints.{expression}
use Rattle.ts_meet.proofs.Marks.{keeps}
use Rattle.ts_meet.proofs.Meeting.{none_there, pair_taken, part_none}
use Rattle.ts_meet.proofs.Places.{left_out}
use Rattle.ts_meet.proofs.along.with_glued.Goals as goal

pub returns-then-not-is_some : goal.returns-then-not-is_some
returns-then-not-is_some g c p q r x s h is stands =
    let xs = lanes_of g.row.N c.args.left.now in let ys = lanes_of g.row.N c.args.right.now in
    keeps c.args.hull s _ stands
    (left_out (sides g.row.N) p q r (spans_of (unpacked xs)) (spans_of (unpacked ys)) x c.args.cells
    (none_there (lane_count g.row.N) xs c.requires.registers c.requires.left (sym c.is_some.ensures ∙ c.if-not-is_some.true)))

pub returns-then-not-is_some-2 : goal.returns-then-not-is_some-2
returns-then-not-is_some-2 g c p q r x s h is stands =
    let xs = lanes_of g.row.N c.args.left.now in let ys = lanes_of g.row.N c.args.right.now in
    keeps c.args.hull s _ stands
    (part_none (sides g.row.N) p q r (spans_of (unpacked xs)) (spans_of (unpacked ys)) x c.args.cells
    (none_there (lane_count g.row.N) ys c.requires.registers c.requires.right (sym c.is_some-2.ensures ∙ c.if-not-is_some-2.true)))

pub glued_by-glued-requires : goal.glued_by-glued-requires
glued_by-glued-requires g c =
    let n = lane_count g.row.N in
    let here = not_nothing n (lanes_of g.row.N c.args.left.now) (sym c.is_some.ensures ∙ c.if-not-is_some.false) c.requires.left in
    let there = not_nothing n (lanes_of g.row.N c.args.right.now) (sym c.is_some-2.ensures ∙ c.if-not-is_some-2.false) c.requires.right in
    let taken = c.requires.takes (sym c.is_some.ensures ∙ c.if-not-is_some.false) (sym c.is_some-2.ensures ∙ c.if-not-is_some-2.false) in
    (search rules, (c.requires.fits, (c.requires.registers, (c.requires.alone, (here, (there, (c.requires.worth, taken)))))))

pub returns : goal.returns
returns g c p q r x s h is stands =
    let n = lane_count g.row.N in let xs = lanes_of g.row.N c.args.left.now in let ys = lanes_of g.row.N c.args.right.now in
    let marks : (t : Span) → IsPackOf c.glued_by-glued.result t → IsPackOf c.marked_by.result (marked_span c.args.joints.now.mark c.args.cells t) =
    λ t p. subst (λ m. IsPackOf c.marked_by.result (marked_span m c.args.cells t)) (c.numbered_mark.ensures ∙ c.requires.mark) (c.marked_by.ensures t p) in
    pair_taken (sides g.row.N) p c.args.joints.now q r (spans_of (unpacked xs)) (spans_of (unpacked ys)) x c.args.cells
    (expression c.args.gluing) c.args.hull c.glued_by-glued.result c.marked_by.result c.joined.result s h
    (some_unpacked n xs c.requires.registers (not_nothing n xs (sym c.is_some.ensures ∙ c.if-not-is_some.false) c.requires.left))
    (some_unpacked n ys c.requires.registers (not_nothing n ys (sym c.is_some-2.ensures ∙ c.if-not-is_some-2.false) c.requires.right))
    is c.glued_by-glued.ensures marks c.joined.ensures stands
