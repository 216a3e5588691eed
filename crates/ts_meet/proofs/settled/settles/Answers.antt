use mir.Val.{SFits}
use Rattle.std.proofs.Common.{◌≤◌, sym, subst, ◌∙◌, w64, arith, rules}
use Rattle.std.proofs.lemmas.Int.{to_z-of_z}
use Rattle.ts_row.specs.Rows.{lanes_of}
use Rattle.ts_sweep.specs.MoveLaws.{not_nothing}
use Rattle.ts_sweep.specs.Sides.{lane_count, sides}
use Rattle.ts_meet.specs.Asked.{Reaches}
use Rattle.ts_meet.specs.Ends.{end_alone, needed_ends}
use Rattle.ts_meet.specs.Meets.{glued_seen}
use Rattle.ts_meet.specs.Settled.{with_hull}
use Rattle.ts_meet.proofs.settled.settles.Goals as goal

pub answers_settle-requires : goal.answers_settle-requires
answers_settle-requires g c =
    let n = lane_count g.row.N in let given = c.requires in
    let here = not_nothing n (lanes_of g.row.N c.args.left.now) (sym c.is_some.ensures ∙ c.if-not-is_some.false) given.left in
    let there = not_nothing n (lanes_of g.row.N c.args.right.now) (sym c.is_some-2.ensures ∙ c.if-not-is_some-2.false) given.right in
    (search rules, (given.registers, (given.lanes, (given.alone, (given.operator, (here, there))))))

pub end_settles-requires : goal.end_settles-requires
end_settles-requires g c =
    let n = lane_count g.row.N in let given = c.requires in
    let here = not_nothing n (lanes_of g.row.N c.args.left.now) (sym c.is_some.ensures ∙ c.if-not-is_some.false) given.left in
    let there = not_nothing n (lanes_of g.row.N c.args.right.now) (sym c.is_some-2.ensures ∙ c.if-not-is_some-2.false) given.right in
    (search rules, (given.registers, (given.alone, (given.operator, (given.wide, (here, there))))))

pub returns-in-Both : goal.returns-in-Both
returns-in-Both g c so p q r h none x =
    let span = glued_seen (sides g.row.N) p (with_hull g.row.N q c.args.left.now) (with_hull g.row.N r c.args.right.now) x c.args.cells in
    subst (λ n. Reaches (needed_ends n) span) (sym c.in-Both.is) (c.answers_settle.ensures so p q r h none x)

pub returns-in-One : goal.returns-in-One
returns-in-One g c so p q r h none x =
    let few : c.args.cells ≤ 4294967295 = (let f = c.ranges.cells.fits in omega (arith, f)) in
    let fits : SFits w64 c.in-One.x = search rules in
    let span = glued_seen (sides g.row.N) p (with_hull g.row.N q c.args.left.now) (with_hull g.row.N r c.args.right.now) x c.args.cells in
    subst (λ n. Reaches (needed_ends n) span) (sym c.in-One.is)
    (subst (λ z. Reaches (end_alone c.in-One.end z) span) (to_z-of_z w64 c.in-One.x fits) (c.end_settles.ensures so p q r c.args.cells h none few x))
