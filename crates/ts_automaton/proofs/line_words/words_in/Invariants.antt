use Rattle.std.proofs.Common.{◌≡◌, ◌++◌}
use Rattle.ts_base.specs.Words.{words_of, all_words}
use Rattle.ts_base.specs.Words.{more_seen, left_of}
use Rattle.ts_automaton.specs.FormulaText.{texts}
use Rattle.ts_automaton.proofs.line_words.words_in.Given as goal

abbrev pub invariant-loop-rest : goal.invariant-loop-rest
invariant-loop-rest l = texts l.found.items ++ more_seen l.rest ≡ all_words (words_of l.line)

abbrev pub decreases-loop-rest : goal.decreases-loop-rest
decreases-loop-rest l = left_of l.rest
