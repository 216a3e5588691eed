use Rattle.std.proofs.Common.{get_or, []}
use Rattle.ts_domain.specs.Kept.{values_above, values_up_to}
use Rattle.ts_domain.proofs.BoxLaws.{series_count-split, length-sides}
use Rattle.ts_domain.proofs.laws.split_shares_series.Goals as goal

pub returns : goal.returns
returns c = λ cells i t below. let d = get_or cells i [] in series_count-split cells i (values_up_to t d) (values_above t d) below (length-sides t d)
