use Rattle.std.proofs.Common.{◌≡◌, map, take}
use Rattle.ts_domain.specs.Boxes.{values_at}
use Rattle.ts_meet.specs.Meets.{hull_of_spans}
use Rattle.ts_bound.specs.TermSpans.{automata_of}
use Rattle.ts_bound.proofs.SpanEnds.{value_there}
use Rattle.ts_bound.proofs.spans.term_span.Given as goal

abbrev pub invariant-loop-i : goal.invariant-loop-i
invariant-loop-i l = l.span ≡ hull_of_spans (take l.i (map (value_there (automata_of l.m) l.k l.cells.present) (values_at l.k l.cells.present)))
