use Rattle.ts_transducer.proofs.CallerLemmas.{decode_inside, decode_count}
use Rattle.ts_transducer.proofs.laws.decoded_ranges.Goals as goal

pub returns-clause-inside : goal.returns-clause-inside
returns-clause-inside c = λ rows a w o. decode_inside rows a w o

pub returns-clause-count : goal.returns-clause-count
returns-clause-count c = λ rows a w. decode_count rows a w
