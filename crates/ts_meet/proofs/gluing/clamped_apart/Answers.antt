use Rattle.std.proofs.Common.{Bool, false, pos, ap, ◌∙◌, sym, subst, rules}
use Rattle.ts_base.specs.declared.op.Op.{Op}
use Rattle.ts_automaton.specs.Registers.{spans_of}
use Rattle.ts_row.specs.Rows.{lanes_of}
use Rattle.ts_sweep.specs.Packed.{unpacked}
use Rattle.ts_sweep.specs.Sides.{lane_count, sides}
use Rattle.ts_glue.specs.Glue.{apart, glue_in}
use Rattle.ts_sweep.specs.declared.packed.Ends.{Ends}
use Rattle.ts_meet.specs.declared.gluing.Gluing.{Gluing}
use Rattle.ts_meet.specs.SideLaws.{cell_packs, clamped_packs}
use Rattle.ts_meet.specs.Sides.{ArePackOf, TakesAny, clamped_values, ends_in, pointed_spans}
use Rattle.ts_meet.proofs.Gluings.{any_takes, glued_packs}
use Rattle.ts_meet.proofs.Pointed.{lanes_pack}
use Rattle.ts_meet.proofs.gluing.clamped_apart.Goals as goal

pub answers-requires : goal.answers-requires
answers-requires g c = any_takes clamped_values (ends_in c.of.result) (ends_in c.of-2.result) (apart c.apart-gluing.result.wide c.apart-gluing.result.result)

pub returns : goal.returns
returns g c =
    let s = sides g.row.N in let n = lane_count g.row.N in let big = c.requires.registers in
    let xs = lanes_of g.row.N c.args.left.now in let ys = lanes_of g.row.N c.args.right.now in
    let a = ends_in c.of.result in let b = ends_in c.of-2.result in
    let left = pointed_spans s (spans_of (unpacked xs)) in let right = pointed_spans s (spans_of (unpacked ys)) in
    let made : Gluing = record {
      result = c.args.operator;
      fold = c.args.operator;
      worth = pos 0;
      wide = c.args.wide;
      joins = false;
      trims = false;
      held_left = false;
      held_right = false;
    } in
    let answers : Bool → Op → Ends = λ w o. glue_in clamped_values a b (apart w o) in
    let parts = c.apart-gluing.ensures.parts in
    glued_packs clamped_values TakesAny cell_packs (λ o x y s t h p q. clamped_packs o x y s t p q) made a b (search rules)
    (any_takes clamped_values a b (apart c.args.wide c.args.operator)) c.answers.result
    (c.answers.ensures ∙ ap (λ w. answers w c.apart-gluing.result.result) parts.0 ∙ ap (answers c.args.wide) parts.1) left right
    (subst (λ z. ArePackOf z left) (sym c.of.ensures) (lanes_pack s n xs big c.requires.left))
    (subst (λ z. ArePackOf z right) (sym c.of-2.ensures) (lanes_pack s n ys big c.requires.right))
