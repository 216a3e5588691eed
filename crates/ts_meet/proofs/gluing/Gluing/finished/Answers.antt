use Rattle.std.proofs.Common.{sym, subst}
use Rattle.ts_automaton.specs.Registers.{spans_of}
use Rattle.ts_row.specs.Rows.{lanes_of}
use Rattle.ts_sweep.specs.Packed.{unpacked}
use Rattle.ts_sweep.specs.Sides.{lane_count, sides}
use Rattle.ts_meet.specs.SideLaws.{cell_packs, plain_packs}
use Rattle.ts_meet.specs.Sides.{AreSomeEnds, ArePackOf, TakesPlain, ends_in, plain_values, pointed_spans}
use Rattle.ts_meet.proofs.Gluings.{answer_packs, plain_apart}
use Rattle.ts_meet.proofs.Pointed.{lanes_pack, lanes_some}
use Rattle.ts_meet.proofs.gluing.Gluing.finished.Goals as goal

pub answer-requires : goal.answer-requires
answer-requires g c =
    let s = sides g.row.N in let n = lane_count g.row.N in let xs = lanes_of g.row.N c.args.h.now in let a = ends_in c.of-side.result in
    let some = subst AreSomeEnds (sym c.of-side.ensures) (lanes_some s n xs c.requires.registers c.requires.some) in
    (plain_apart a a some some c.args.self c.requires.worth (c.is_apart_plain.ensures c.if-is_apart_plain.true) c.requires.apart).0

pub returns-then-is_apart_plain : goal.returns-then-is_apart_plain
returns-then-is_apart_plain g c =
    let s = sides g.row.N in let n = lane_count g.row.N in let xs = lanes_of g.row.N c.args.h.now in let a = ends_in c.of-side.result in
    let some = subst AreSomeEnds (sym c.of-side.ensures) (lanes_some s n xs c.requires.registers c.requires.some) in
    let regs = pointed_spans s (spans_of (unpacked xs)) in
    answer_packs plain_values TakesPlain cell_packs plain_packs c.args.self.wide c.args.self.result a
    (plain_apart a a some some c.args.self c.requires.worth (c.is_apart_plain.ensures c.if-is_apart_plain.true) c.requires.apart).0
    c.answer.result c.answer.ensures regs
    (subst (λ z. ArePackOf z regs) (sym c.of-side.ensures) (lanes_pack s n xs c.requires.registers c.requires.some))
