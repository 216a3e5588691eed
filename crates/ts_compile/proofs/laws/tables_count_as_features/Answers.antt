use Rattle.std.proofs.Common.{sym}
use Rattle.ts_compile.proofs.Local.{fold_op_is, worth_is}
use Rattle.ts_compile.proofs.laws.tables_count_as_features.Goals as goal

pub returns-clause-op : goal.returns-clause-op
returns-clause-op c = λ id f. fold_op_is f

pub returns-clause-worth : goal.returns-clause-worth
returns-clause-worth c = λ id f x. sym (worth_is f x)
