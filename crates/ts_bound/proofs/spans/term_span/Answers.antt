use mir.Val.{SFits}
use Rattle.std.proofs.Common.{sym, ap, ◌∙◌, length, slice_get, rules, w64, arith}
use Rattle.std.proofs.lemmas.Int.{to_z-of_z}
use Rattle.ts_bound.specs.Looks.{read_at}
use Rattle.ts_bound.specs.TermSpans.{automata_of}
use Rattle.ts_bound.proofs.SpanEnds.{term_taken, value_taken, value_there}
use Rattle.ts_bound.proofs.spans.term_span.Goals as goal

pub loop-i-preserved : goal.loop-i-preserved
loop-i-preserved c =
    let m = automata_of c.args.m.now in let cells = c.args.cells.now.present in let k = c.read_at-k.result in
    let fits : SFits w64 c.nth.result = search rules in
    let l = ap length c.cell-values.ensures in
    value_taken m k cells c.loop-i.i c.nth.result c.loop-i.span c.span_at.result c.hull-span.result
    (omega (arith, l, c.loop-i-test.true, c.size-i-end.ensures.size))
    (ap (λ d. slice_get d c.loop-i.i) (sym c.cell-values.ensures) ∙ c.nth.ensures)
    (c.span_at.ensures ∙ ap (value_there m k cells) (to_z-of_z w64 c.nth.result fits)) c.hull-span.ensures c.loop-i.invariant

pub returns : goal.returns
returns c =
    let l = ap length c.cell-values.ensures in
    term_taken (automata_of c.args.m.now) c.read_at-k.result c.args.p c.args.cells.now.present c.requires.looks c.requires.cell.0 c.requires.cell.1
    (c.read_at-k.ensures ∙ ap (λ w. read_at w c.args.p) c.window.ensures) c.loop-i.i c.loop-i.span
    (omega (arith, l, c.loop-i-test.false, c.size-i-end.ensures.size)) c.loop-i.invariant
