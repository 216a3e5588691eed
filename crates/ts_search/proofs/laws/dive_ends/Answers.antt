use Rattle.ts_search.proofs.Closing.{dive_ends, dive_meets, dive_ends_early}
use Rattle.ts_search.proofs.KeptLaws.{kept_fits}
use Rattle.ts_search.proofs.laws.dive_ends.Goals as goal

pub returns-clause-kept : goal.returns-clause-kept
returns-clause-kept c = kept_fits

pub returns-clause-alone : goal.returns-clause-alone
returns-clause-alone c = dive_ends

pub returns-clause-meets : goal.returns-clause-meets
returns-clause-meets c = dive_meets

pub returns-clause-early : goal.returns-clause-early
returns-clause-early c = dive_ends_early
