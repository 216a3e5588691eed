use Rattle.std.proofs.Common.{rules, Ok, Err}
use Rattle.ts_token.specs.Views.{cut_view}
use Rattle.ts_user.specs.declared.user_stop.UserKind.TheVariants.{NotText}
use Rattle.ts_user.specs.declared.user_stop.UserStop.TheVariants.{Refused}
use Rattle.ts_user.proofs.Told.{told}
use Rattle.ts_user.proofs.read.read_pattern.Goals as goal

pub returns-in_err-draft-clause-first : goal.returns-in_err-draft-clause-first
returns-in_err-draft-clause-first c = told (cut_view c.args.tokens.now) c.from_residual.result (search rules)

pub returns-in-Some-clause-first : goal.returns-in-Some-clause-first
returns-in-Some-clause-first c = told (cut_view c.args.tokens.now) (Err (Refused c.in-Some.line NotText)) (search rules)

pub returns-in-Ok-clause-first : goal.returns-in-Ok-clause-first
returns-in-Ok-clause-first c = told (cut_view c.args.tokens.now) (Ok c.in-Ok.pattern) (search rules)

pub returns-in-Err-clause-first : goal.returns-in-Err-clause-first
returns-in-Err-clause-first c = told (cut_view c.args.tokens.now) (Err c.at_line.result) (search rules)
