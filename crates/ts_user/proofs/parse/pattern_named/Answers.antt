use Rattle.ts_user.proofs.TableNames.{pattern_is}
use Rattle.ts_user.proofs.parse.pattern_named.Goals as goal

pub returns : goal.returns
returns c = pattern_is _ _ c.pattern_of.ensures
