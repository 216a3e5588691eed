use mir.Val.{SFits}
use Rattle.std.proofs.Common.{◌≡◌, ◌+◌, ◌<◌, ℤ, length, get_or, pos, w64, sym, ap, subst, ◌∙◌, arith, rules}
use Rattle.std.proofs.lemmas.Int.{to_z-of_z}
use Rattle.ts_base.specs.declared.span.Span.{Span}
use Rattle.ts_automaton.specs.AutomatonRun.{Standing}
use Rattle.ts_base.specs.Limits.{IsCellValue}
use Rattle.ts_base.specs.Spans.{span_hull}
use Rattle.ts_row.specs.Rows.{lanes_of, nothing}
use Rattle.ts_sweep.specs.Packed.{IsPacked}
use Rattle.ts_sweep.specs.Sides.{lane_count, sides}
use Rattle.ts_meet.specs.Along.{pair_along}
use Rattle.ts_meet.specs.Meets.{glued_seen}
use Rattle.ts_meet.specs.Peaks.{IsTaken}
use Rattle.ts_meet.specs.Settled.{with_hull, with_hull_at}
use Rattle.ts_meet.specs.Sides.{StandFor}
use Rattle.ts_meet.proofs.Asking.{read_there, value_there}
use Rattle.ts_meet.proofs.Places.{pair_more, pair_none}
use Rattle.ts_meet.proofs.along.along_values.Goals as goal

pub loop-i-init : goal.loop-i-init
loop-i-init g c p q r h is =
    subst (StandFor c.nothing-hull.result)
    (sym (pair_none g.row.N p c.args.from c.args.values.now c.args.cells q r c.args.left.now c.args.right.now)) c.nothing-hull.ensures

pub with_value-hull-requires : goal.with_value-hull-requires
with_value-hull-requires g c =
    let n = g.row.N in let i = c.loop-i.i in let at = c.args.from + i in let given = c.requires in let before = c.loop-i-test.true in
    let left = c.args.left.now in let right = c.args.right.now in let x = get_or c.args.values.now i (pos 0) in
    let place : at < c.args.from + length c.args.values.now = omega (arith, before) in
    let here = subst (λ z. IsPacked (lane_count n) (lanes_of n z))
    (sym (read_there n left at _ c.index-left-from.is (let e = given.left.0 in omega (arith, e, place)))) (given.left.1 at place) in
    let there = subst (λ z. IsPacked (lane_count n) (lanes_of n z))
    (sym (read_there n right at _ c.index-right-from.is (let e = given.right.0 in omega (arith, e, place)))) (given.right.1 at place) in
    let few = value_there c.args.values.now i given.values before in let fits : SFits w64 x = search rules in
    let is_left = read_there n left at _ c.index-left-from.is (let e = given.left.0 in omega (arith, e, place)) in
    let is_right = read_there n right at _ c.index-right-from.is (let e = given.right.0 in omega (arith, e, place)) in
    let taken = subst (λ z. IsTaken n (g.S.Seam.takes c.args.gluing) z c.index-right-from.result) (sym is_left)
    (subst (IsTaken n (g.S.Seam.takes c.args.gluing) (get_or left at (nothing n))) (sym is_right) (given.takes i before)) in
    (search rules, (given.fits, (given.registers, (given.alone, (here, (there, (subst IsCellValue (sym (to_z-of_z w64 x fits)) few, (taken, given.mark))))))))

pub loop-i-preserved : goal.loop-i-preserved
loop-i-preserved g c p q r h is =
    let n = g.row.N in let a = c.args in let i = c.loop-i.i in let at = a.from + i in let before = c.loop-i-test.true in
    let left = a.left.now in let right = a.right.now in let values = a.values.now in let x = get_or values i (pos 0) in
    let place : at < a.from + length values = omega (arith, before) in
    let fits : SFits w64 x = search rules in
    let so_far = pair_along n p q r left right a.from values a.cells i in
    let part : Standing Span → Standing Span → ℤ → Span = λ s t v. span_hull so_far (glued_seen (sides n) p s t v a.cells) in
    subst (StandFor c.with_value-hull.result)
    (ap (part (with_hull n q c.index-left-from.result) (with_hull n r c.index-right-from.result)) (to_z-of_z w64 x fits)
    ∙ ap (λ z. part (with_hull n q z) (with_hull n r c.index-right-from.result) x)
    (read_there n left at _ c.index-left-from.is (let e = c.requires.left.0 in omega (arith, e, place)))
    ∙ ap (λ z. part (with_hull_at n q left at) (with_hull n r z) x)
    (read_there n right at _ c.index-right-from.is (let e = c.requires.right.0 in omega (arith, e, place)))
    ∙ sym (pair_more n p a.from values a.cells q r left right i))
    (c.with_value-hull.ensures p q r so_far h is (c.loop-i.invariant p q r h is))

pub returns : goal.returns
returns g c p q r h is =
    let a = c.args in
    let e : c.loop-i.i ≡ length a.values.now = omega (arith, c.loop-i-test.false, c.loop-i.auto.i-end) in
    subst (λ m. StandFor c.loop-i.hull (pair_along g.row.N p q r a.left.now a.right.now a.from a.values.now a.cells m)) e (c.loop-i.invariant p q r h is)
