use Rattle.std.proofs.Common.{Bool, pos, ap, ◌∙◌, sym, subst}
use Rattle.ts_base.specs.declared.op.Op.{Op}
use Rattle.ts_automaton.specs.Registers.{spans_of, value_in}
use Rattle.ts_row.specs.Rows.{lanes_of}
use Rattle.ts_sweep.specs.declared.packed.Ends.{Ends}
use Rattle.ts_sweep.specs.Packed.{unpacked}
use Rattle.ts_sweep.specs.Sides.{lane_count, sides}
use Rattle.ts_glue.specs.Glue.{result_of}
use Rattle.ts_meet.specs.SideLaws.{cell_packs, clamped_packs}
use Rattle.ts_meet.specs.Sides.{ArePackOf, TakesAny, clamped_values, ends_in, pointed_spans}
use Rattle.ts_meet.proofs.Gluings.{answer_packs, any_value}
use Rattle.ts_meet.proofs.Pointed.{lanes_pack}
use Rattle.ts_meet.proofs.gluing.clamped_answer.Goals as goal

pub answer-requires : goal.answer-requires
answer-requires g c = any_value clamped_values (ends_in c.of.result) (result_of c.apart-gluing.result.wide c.apart-gluing.result.result)

pub returns : goal.returns
returns g c =
    let s = sides g.row.N in let n = lane_count g.row.N in let xs = lanes_of g.row.N c.args.h.now in let a = ends_in c.of.result in
    let regs = pointed_spans s (spans_of (unpacked xs)) in
    let value : Bool → Op → Ends = λ w o. value_in clamped_values a (pos 0) (pos 0) (result_of w o) in
    let parts = c.apart-gluing.ensures.parts in
    answer_packs clamped_values TakesAny cell_packs (λ o x y s t h p q. clamped_packs o x y s t p q) c.args.wide c.args.operator a
    (any_value clamped_values a (result_of c.args.wide c.args.operator)) c.answer.result
    (c.answer.ensures ∙ ap (λ w. value w c.apart-gluing.result.result) parts.0 ∙ ap (value c.args.wide) parts.1) regs
    (subst (λ z. ArePackOf z regs) (sym c.of.ensures) (lanes_pack s n xs c.requires.registers c.requires.some))
