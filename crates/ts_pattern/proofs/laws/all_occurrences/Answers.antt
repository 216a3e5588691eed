use Rattle.ts_pattern.proofs.AllOccurrences.{ranges_are, are_ranges}
use Rattle.ts_pattern.proofs.laws.all_occurrences.Goals as goal

pub returns-clause-all : goal.returns-clause-all
returns-clause-all c = λ p b a w. are_ranges p b a w

pub returns-clause-one : goal.returns-clause-one
returns-clause-one c = λ p b a w ranges h. ranges_are p b a w ranges h
