use Rattle.std.proofs.Common.{sym, ◌∙◌, length, rules}
use Rattle.ts_automaton.specs.Registers.{spans_of}
use Rattle.ts_row.specs.Rows.{lanes_of}
use Rattle.ts_sweep.specs.MoveLaws.{not_nothing}
use Rattle.ts_sweep.specs.Packed.{unpacked}
use Rattle.ts_sweep.specs.Sides.{lane_count}
use Rattle.ts_meet.specs.Meets.{standing}
use Rattle.ts_meet.proofs.Meeting.{left_none, none_there}
use Rattle.ts_meet.proofs.meets.with_reached.Goals as goal

pub returns-then-not-is_some : goal.returns-then-not-is_some
returns-then-not-is_some g c p s h stands =
    let xs = lanes_of g.row.N c.args.left.now in let at = c.args.spot in
    left_none g.row.N p (standing c.args.q (spans_of (unpacked xs))) c.args.right.now at.place at.value at.cells (length p.reverse.states) s c.args.hull
    (none_there (lane_count g.row.N) xs c.requires.registers c.requires.left (sym c.is_some.ensures ∙ c.if-not-is_some.true)) stands

pub with_state-requires : goal.with_state-requires
with_state-requires g c =
    let some = not_nothing (lane_count g.row.N) (lanes_of g.row.N c.args.left.now) (sym c.is_some.ensures ∙ c.if-not-is_some.false) c.requires.left in
    let given = c.requires in
    (search rules, (search rules, (given.registers, (given.lanes, (given.alone, (given.operator, (given.state, (some, (given.right, given.value)))))))))
