use Rattle.ts_base.specs.Words.{all_words, left_of, words_of}
use Rattle.ts_automaton.proofs.FrontLaws.{less_left, one_more_word}
use Rattle.ts_automaton.proofs.line_words.words_in.Goals as goal

pub loop-rest-preserved : goal.loop-rest-preserved
loop-rest-preserved c =
    one_more_word (all_words (words_of c.args.line.now)) c.loop-rest.found.items c.push.new.self.items c.loop-rest.rest c.in-Some.part c.words_of-words.result
    c.in-Some.is c.words_of-words.ensures.words c.in_ok-push.ensures.items c.loop-rest.invariant

pub loop-rest-smaller : goal.loop-rest-smaller
loop-rest-smaller c =
    less_left c.loop-rest.rest c.in-Some.part (left_of c.words_of-words.result.rest) c.in-Some.is c.words_of-words.ensures.shorter
