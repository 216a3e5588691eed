use Rattle.std.proofs.Common.{◌≡◌, IfSome, sym, subst, ap, ◌∙◌, w64}
use Rattle.std.proofs.lemmas.Int.{to_z-of_z}
use Rattle.std.proofs.lemmas.Bool.{not-false}
use Rattle.ts_automaton.specs.Kinds.{SpansFit}
use Rattle.ts_automaton.specs.Registers.{spans, spans_of}
use Rattle.ts_automaton.specs.SpanRun.{has_registers, hull_standing}
use Rattle.ts_glue.specs.Glue.{GlueTakes, glue_in, glue_of, registers_in}
use Rattle.ts_glue.specs.Machines.{forward_of, pair_of}
use Rattle.ts_glue.specs.Shapes.{expression}
use Rattle.ts_glue.proofs.Calls.{forward_in_pair, spans_fit, spans_told}
use Rattle.ts_glue.proofs.glue.glue_span.Goals as goal

pub glued-span-requires-clause-fits : goal.glued-span-requires-clause-fits
glued-span-requires-clause-fits c =
    let g = c.gluing-gluing in let u = expression g.result in
    subst (λ s. GlueTakes SpansFit spans s (registers_in c.of_hull-2.result) u)
    (sym c.of_hull.ensures)
    (subst (λ s. GlueTakes SpansFit spans (spans_of c.args.left.hull) s u) (sym c.of_hull-2.ensures)
    (spans_fit c.args.m.now c.requires.split g.ensures.forward_rules g.ensures.reverse_rules u (hull_standing c.args.left) (hull_standing c.args.right)
    c.requires.left c.requires.right
    (not-false (has_registers (spans_of c.args.left.hull)) (sym c.is_none.ensures ∙ c.if-is_none.false))
    (not-false (has_registers (spans_of c.args.right.hull)) (sym c.is_none-else-is_none.ensures ∙ c.if-is_none-2.false))
    _ g.ensures.value))

pub returns : goal.returns
returns c =
    let g = c.gluing-gluing in let u = expression g.result in
    spans_told (pair_of c.args.m.now) (forward_of c.args.m.now) u (hull_standing c.args.left) (hull_standing c.args.right) c.args.cell c.args.n c.mark.result
    c.glued-span.result c.applied_to_span.result (forward_in_pair c.args.m.now)
    (subst (λ x. IfSome (pair_of c.args.m.now) (λ p. u ≡ glue_of p c.args.left.state c.args.right.state x)) (to_z-of_z w64 c.args.cell c.ranges.cell)
    g.ensures.value)
    (not-false (has_registers (spans_of c.args.left.hull)) (sym c.is_none.ensures ∙ c.if-is_none.false))
    (not-false (has_registers (spans_of c.args.right.hull)) (sym c.is_none-else-is_none.ensures ∙ c.if-is_none-2.false))
    (c.mark.ensures ∙ ap (λ b. b.mark) c.forward.ensures)
    (c.glued-span.ensures
    ∙ ap (λ s. glue_in spans s (registers_in c.of_hull-2.result) u)
    c.of_hull.ensures
    ∙ ap (λ s. glue_in spans (spans_of c.args.left.hull) s u) c.of_hull-2.ensures)
    c.applied_to_span.ensures
