use Rattle.std.proofs.Common.{◌≡◌, ◌++◌, map, drop}
use Rattle.ts_automaton.specs.AutomatonText.{lines_text}
use Rattle.ts_compile.specs.ProgramText.{join_words}
use Rattle.ts_compile.proofs.glue_text.push_joins.Given as goal

abbrev pub invariant-loop-join : goal.invariant-loop-join
invariant-loop-join l =
    l.text.items ++ lines_text (map (join_words l.forward l.reverse) (drop l.join-index l.joins))
    ≡ l.fn.text.items ++ lines_text (map (join_words l.forward l.reverse) l.joins)
