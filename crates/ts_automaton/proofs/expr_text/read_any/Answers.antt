use Rattle.std.proofs.Common.{arith}
use Rattle.ts_automaton.specs.FormulaText.{stack_seen}
use Rattle.ts_automaton.proofs.FrontLaws.{refused}
use Rattle.ts_automaton.proofs.expr_text.read_any.Goals as goal

pub returns-then-not-branch : goal.returns-then-not-branch
returns-then-not-branch c = refused c.args.words.now c.loop-left.left _ (stack_seen c.loop-left.stack.items) (omega arith)
    c.loop-left.invariant.within c.loop-left.invariant.stack (c.in_ok-stacked.ensures.refused c.if-not-branch.true)
