use Rattle.std.proofs.Common.{◌≡◌, true, false, ap, ◌∙◌, rules, w64}
use Rattle.std.proofs.lemmas.Int.{to_z-of_z}
use Rattle.ts_glue.specs.Machines.{window_of}
use Rattle.ts_bound.specs.Looks.{is_looked}
use Rattle.ts_bound.specs.TermSpans.{automata_of}
use Rattle.ts_bound.proofs.SpanEnds.{value_inside, value_outside, value_there}
use Rattle.ts_bound.proofs.spans.value_span.Goals as goal

pub returns-then-not-is_looked : goal.returns-then-not-is_looked
returns-then-not-is_looked c =
    let there : is_looked (window_of c.args.m.now) c.args.p ≡ false = search rules in
    value_outside (automata_of c.args.m.now) c.args.p c.args.cells.now.present c.args.v c.term_span.result there c.term_span.ensures

pub returns : goal.returns
returns c =
    let there : is_looked (window_of c.args.m.now) c.args.p ≡ true = search rules in
    value_inside (automata_of c.args.m.now) c.args.p c.args.cells.now.present c.args.v c.span_at.result there
    (c.span_at.ensures ∙ ap (value_there (automata_of c.args.m.now) c.args.p c.args.cells.now.present) (to_z-of_z w64 c.args.v c.ranges.v))
