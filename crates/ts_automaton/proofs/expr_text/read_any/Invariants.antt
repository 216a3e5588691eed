use Rattle.std.proofs.Common.{◌≡◌, ◌≤◌, drop, length, Some}
use Rattle.ts_automaton.specs.FormulaText.{stack_of, texts, stack_seen}
use Rattle.ts_automaton.proofs.expr_text.read_any.Given as goal

abbrev pub invariant-loop-left : goal.invariant-loop-left
invariant-loop-left l = record {
  stack : stack_of (texts (drop l.left l.words)) ≡ Some (stack_seen l.stack.items);
  within : l.left ≤ length l.words;
}

abbrev pub decreases-loop-left : goal.decreases-loop-left
decreases-loop-left l = l.left
