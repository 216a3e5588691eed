use Rattle.std.proofs.Common.{sym, ◌∙◌, rules}
use Rattle.ts_automaton.specs.Registers.{spans_of}
use Rattle.ts_glue.specs.Glue.{result_of}
use Rattle.ts_row.specs.Rows.{lanes_of}
use Rattle.ts_sweep.specs.MoveLaws.{not_nothing}
use Rattle.ts_sweep.specs.Packed.{unpacked}
use Rattle.ts_sweep.specs.Sides.{lane_count, sides}
use Rattle.ts_meet.proofs.Marks.{keeps}
use Rattle.ts_meet.proofs.Meeting.{finish_none, finish_taken, none_there}
use Rattle.ts_meet.proofs.SeenGlue.{answer_shown}
use Rattle.ts_meet.proofs.finished.with_answer.Goals as goal

pub returns-then-not-is_some : goal.returns-then-not-is_some
returns-then-not-is_some g c q s stands =
    let xs = lanes_of g.row.N c.args.h.now in
    keeps c.args.hull s _ stands
    (finish_none (sides g.row.N) c.args.a.now q (spans_of (unpacked xs)) c.args.n
    (none_there (lane_count g.row.N) xs c.requires.registers c.requires.packed (sym c.is_some.ensures ∙ c.if-not-is_some.true)))

pub finished-requires : goal.finished-requires
finished-requires g c =
    let some = not_nothing (lane_count g.row.N) (lanes_of g.row.N c.args.h.now) (sym c.is_some.ensures ∙ c.if-not-is_some.false) c.requires.packed in
    (search rules, (c.requires.registers, (some, (c.requires.worth, c.requires.apart))))

pub marked-requires : goal.marked-requires
marked-requires g c =
    let xs = lanes_of g.row.N c.args.h.now in let gluing = c.args.gluing in
    (answer_shown (sides g.row.N) c.args.a.now (spans_of (unpacked xs)) (result_of gluing.wide gluing.result) c.finished.result c.shown-ends.result
    c.requires.rules c.requires.alone c.requires.finish c.shown-ends.ensures c.finished.ensures).some

pub returns : goal.returns
returns g c q s stands =
    let xs = lanes_of g.row.N c.args.h.now in let n = lane_count g.row.N in let b = c.args.a.now in let gluing = c.args.gluing in
    let some = not_nothing n xs (sym c.is_some.ensures ∙ c.if-not-is_some.false) c.requires.packed in
    finish_taken (sides g.row.N) n b q xs c.args.n c.mark.result c.args.hull c.shown-ends.result c.marked.result c.joined.result s c.requires.registers some
    c.mark.ensures
    (answer_shown (sides g.row.N) b (spans_of (unpacked xs)) (result_of gluing.wide gluing.result) c.finished.result c.shown-ends.result
    c.requires.rules c.requires.alone c.requires.finish c.shown-ends.ensures c.finished.ensures)
    c.marked.ensures c.joined.ensures stands
