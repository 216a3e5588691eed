use Rattle.std.proofs.Common.{sym, ap, ◌∙◌}
use Rattle.std.proofs.lemmas.Bool.{not-false}
use Rattle.ts_automaton.specs.Registers.{spans_of}
use Rattle.ts_automaton.specs.SpanRun.{finish_span_of, has_registers}
use Rattle.ts_meet.specs.Meets.{standing}
use Rattle.ts_bound.proofs.block.finish_state.Goals as goal

pub packed-requires : goal.packed-requires
packed-requires c = record {
  some = not-false (has_registers (spans_of c.args.h.now)) (sym c.is_none.ensures ∙ c.if-is_none.false);
  fits = c.requires;
}

pub returns : goal.returns
returns c q = c.finish_of.ensures q ∙ ap (λ h. finish_span_of c.args.a.now (standing q (spans_of h)) c.args.n) c.packed.ensures.hull
