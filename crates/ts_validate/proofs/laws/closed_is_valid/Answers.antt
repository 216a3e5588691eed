use Rattle.ts_validate.proofs.Law.{closed_valid, closed_matches}
use Rattle.ts_validate.proofs.laws.closed_is_valid.Goals as goal

pub returns-clause-valid : goal.returns-clause-valid
returns-clause-valid c = λ rows p b a plan t h. closed_valid rows t p b a plan h

pub returns-clause-matches : goal.returns-clause-matches
returns-clause-matches c = λ rows p b a plan t h w. closed_matches rows t p b a plan h w
