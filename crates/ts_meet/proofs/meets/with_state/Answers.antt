use Rattle.std.proofs.Common.{◌≡◌, sym, ap, subst, ◌∙◌, length, arith}
use Rattle.std.specs.Prelude.{fold}
use Rattle.ts_automaton.specs.Registers.{spans_of}
use Rattle.ts_base.specs.Spans.{span_hull}
use Rattle.ts_row.specs.Rows.{lanes_of}
use Rattle.ts_sweep.specs.Packed.{unpacked}
use Rattle.ts_sweep.specs.Sides.{sides}
use Rattle.ts_meet.specs.Meets.{glued_seen, spans_with, standing}
use Rattle.ts_meet.specs.Sides.{StandFor}
use Rattle.ts_meet.proofs.Meeting.{standing_there, with_more, with_none}
use Rattle.ts_meet.proofs.meets.with_state.Goals as goal

pub loop-r-init : goal.loop-r-init
loop-r-init g c p s h stands =
    let at = c.args.spot in
    subst (λ z. StandFor c.args.hull (fold span_hull s z))
    (sym (with_none g.row.N p (standing c.args.q (spans_of (unpacked (lanes_of g.row.N c.args.left.now)))) c.args.right.now at.place at.value at.cells)) stands

pub loop-r-preserved : goal.loop-r-preserved
loop-r-preserved g c p s h stands =
    let at = c.args.spot in let right = c.args.right.now in let r = c.loop-r.r in
    let left = standing c.args.q (spans_of (unpacked (lanes_of g.row.N c.args.left.now))) in
    let before = fold span_hull s (spans_with g.row.N p left right at.place at.value at.cells r) in
    subst (StandFor c.with_pair-all.result)
    (ap (λ z. span_hull before (glued_seen (sides g.row.N) p left z at.value at.cells))
    (standing_there g.row.N right r at.place c.hull.result.now c.hull.ensures)
    ∙ sym (with_more g.row.N p left right at.place at.value at.cells r s))
    (c.with_pair-all.ensures p before h (c.loop-r.invariant p s h stands))

pub returns : goal.returns
returns g c p s h stands =
    let at = c.args.spot in let left = standing c.args.q (spans_of (unpacked (lanes_of g.row.N c.args.left.now))) in
    let e : c.loop-r.r ≡ length p.reverse.states = (let k = h.right_states in omega (arith, k, c.loop-r-test.false, c.loop-r.auto.r-end)) in
    subst (λ m. StandFor c.loop-r.all (fold span_hull s (spans_with g.row.N p left c.args.right.now at.place at.value at.cells m))) e
    (c.loop-r.invariant p s h stands)
