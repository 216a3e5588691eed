use Rattle.std.proofs.Common.{◌-◌, arith}
use Rattle.ts_bound.proofs.RowLaws.{row_written, rows_written}
use Rattle.ts_bound.proofs.laws.written_rows_are_set.Goals as goal

pub returns-clause-one : goal.returns-clause-one
returns-clause-one c rows k row is e = let some = is.0 in let few = is.1 in row_written rows (k - 1) row (omega (arith, some, few)) e

pub returns-clause-two : goal.returns-clause-two
returns-clause-two c rows k first second some few e f = rows_written rows k first second some few e f
