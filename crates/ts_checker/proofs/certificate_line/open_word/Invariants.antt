use Rattle.std.proofs.Common.{◌≡◌}
use Rattle.ts_base.specs.Words.{all_words, left_of, words_of, words_seen}
use Rattle.ts_checker.specs.Shortened.{open_behind}
use Rattle.ts_checker.proofs.certificate_line.open_word.Given as goal

abbrev pub invariant-loop-words : goal.invariant-loop-words
invariant-loop-words l = open_behind (all_words (words_seen l.words)) ≡ open_behind (all_words (words_of l.line))

abbrev pub decreases-loop-words : goal.decreases-loop-words
decreases-loop-words l = left_of l.words.rest
