use Rattle.std.proofs.Common.{◌≡◌, ℕ, ◌<◌, true, ap, sym, subst, rules, arith}
use Rattle.ts_automaton.specs.SpanRun.{one_hull}
use Rattle.ts_automaton.specs.Registers.{rests}
use Rattle.ts_automaton.specs.Typing.{each_is, is_constant, is_number_zero}
use Rattle.ts_hull.specs.Hulls.{hull_of}
use Rattle.ts_row.specs.Rows.{IsHull, IsRow, hull_in, start_hull}
use Rattle.ts_row.proofs.StartLaws.{started}
use Rattle.ts_row.proofs.WidthLaws.{start_constants, start_rests}
use Rattle.ts_sweep.specs.Sides.{has_wide, seen_hull, sides}
use Rattle.ts_row.proofs.start.start_row.Goals as goal

pub packed_start-hull-requires : goal.packed_start-hull-requires
packed_start-hull-requires g c = (
  search rules,
  (
    c.requires.registers,
    (
      subst (λ z. each_is is_constant z ≡ true) (sym (ap (λ z. z.regs) c.start.ensures.value)) (start_constants c.args.a.now c.states-states.ensures.rules),
      subst (λ z. rests is_number_zero (has_wide g.row.N) z ≡ true) (sym (ap (λ z. z.regs) c.start.ensures.value))
          (subst (λ w. rests is_number_zero w c.args.a.now.start ≡ true) c.requires.width (start_rests c.args.a.now c.states-states.ensures.rules)),
    ),
  ),
)

pub begin-requires : goal.begin-requires
begin-requires g c = let long = c.in_ok-clear.ensures.len in let some = c.states-states.ensures.some in omega (arith, long, some)

pub returns : goal.returns
returns g c =
    let new = c.begin.new.self in
    subst (λ s. IsRow g.row.N s c.args.count new × ((t j : ℕ) → t < s → j < c.args.count → hull_in g.row.N new t j
    ≡ seen_hull (sides g.row.N) (start_hull c.args.a.now t)))
    c.states-states.ensures.count
    (started g.row.N c.states-states.result c.args.count c.args.a.now c.packed_start-hull.result c.clear.new.self new c.requires.registers
    (let some = c.states-states.ensures.some in omega (arith, some))
    c.in_ok-clear.ensures c.begin.ensures
    (subst (λ z. IsHull g.row.N (hull_of (one_hull z)) c.packed_start-hull.result) (ap (λ z. z.regs) c.start.ensures.value) c.packed_start-hull.ensures))
