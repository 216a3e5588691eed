use Rattle.std.proofs.Common.{sym, ◌∙◌}
use Rattle.ts_automaton.specs.Formula.{formula}
use Rattle.ts_automaton.specs.Registers.{spans_of}
use Rattle.ts_row.specs.Rows.{lanes_of}
use Rattle.ts_sweep.specs.MoveLaws.{not_nothing}
use Rattle.ts_sweep.specs.Packed.{unpacked}
use Rattle.ts_sweep.specs.Sides.{lane_count, sides}
use Rattle.ts_meet.proofs.Marks.{keeps}
use Rattle.ts_meet.proofs.Meeting.{finish_none, finish_packs, finish_taken, none_there}
use Rattle.ts_meet.proofs.SeenGlue.{finish_for}
use Rattle.ts_meet.proofs.meets.with_finish.Goals as goal

pub returns-then-not-is_some : goal.returns-then-not-is_some
returns-then-not-is_some g c q s stands =
    let xs = lanes_of g.row.N c.args.h.now in
    keeps c.args.hull s _ stands
    (finish_none (sides g.row.N) c.args.a.now q (spans_of (unpacked xs)) c.args.n
    (none_there (lane_count g.row.N) xs c.requires.registers c.requires.packed (sym c.is_some.ensures ∙ c.if-not-is_some.true)))

pub returns : goal.returns
returns g c q s stands =
    let xs = lanes_of g.row.N c.args.h.now in let n = lane_count g.row.N in let b = c.args.a.now in
    let some = not_nothing n xs (sym c.is_some.ensures ∙ c.if-not-is_some.false) c.requires.packed in
    finish_taken (sides g.row.N) n b q xs c.args.n c.mark.result c.args.hull c.shown-ends.result c.marked.result c.joined.result s c.requires.registers some
    c.mark.ensures
    (finish_packs (sides g.row.N) n b xs (formula c.finish_expr.result.now) c.ends.result c.shown-ends.result c.requires.registers some
    (finish_for (sides g.row.N) b c.finish_expr.ensures.rules c.requires.alone) c.finish_expr.ensures.value c.ends.ensures c.shown-ends.ensures)
    c.marked.ensures c.joined.ensures stands

pub marked-requires : goal.marked-requires
marked-requires g c =
    let xs = lanes_of g.row.N c.args.h.now in let n = lane_count g.row.N in let b = c.args.a.now in
    let some = not_nothing n xs (sym c.is_some.ensures ∙ c.if-not-is_some.false) c.requires.packed in
    (finish_packs (sides g.row.N) n b xs (formula c.finish_expr.result.now) c.ends.result c.shown-ends.result c.requires.registers some
    (finish_for (sides g.row.N) b c.finish_expr.ensures.rules c.requires.alone) c.finish_expr.ensures.value c.ends.ensures c.shown-ends.ensures).some
