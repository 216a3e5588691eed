use Rattle.std.proofs.Common.{sym, ◌∙◌, ap, length}
use Rattle.ts_automaton.specs.Body.{Body}
use Rattle.ts_glue.specs.Glue.{fold_op, is_pair}
use Rattle.ts_meet.proofs.found.joints_of.Goals as goal

pub returns : goal.returns
returns c p front back are = record {
  result = are.0;
  fold = c.op.ensures ∙ ap fold_op are.1;
  unit = are.2;
  wide = c.is_pair.ensures ∙ ap is_pair are.1;
  mark = c.mark.ensures ∙ sym (ap (λ (b : Body). b.mark) front);
  left_states = c.states.ensures.count ∙ sym (ap (λ (b : Body). length b.states) front);
  right_states = c.states-2.ensures.count ∙ sym (ap (λ (b : Body). length b.states) back);
  shapes = are.3;
}
