use Rattle.std.proofs.Common.{◌-◌, length, arith}
use Rattle.ts_token.proofs.LineLaws.{cr_cut, cr_kept, cr_none}
use Rattle.ts_token.proofs.lines.without_cr.Goals as goal
use Rattle.ts_token.proofs.lines.without_cr.Goals.{else-n-gt0-via-then-n-gt0+else-line-n-eq13, else-n-gt0-via-else-n-gt0}

pub returns-then-line-n-eq13-clause-value : goal.returns-then-line-n-eq13-clause-value
returns-then-line-n-eq13-clause-value c = cr_cut (length c.args.line.now - 1) c.args.line.now (omega arith) c.if-line-n-eq13.true

pub returns-else-n-gt0-clause-value : goal.returns-else-n-gt0-clause-value
returns-else-n-gt0-clause-value c =
    elim c.else-n-gt0.branch [
      | else-n-gt0-via-then-n-gt0+else-line-n-eq13 w ↦ cr_kept (length c.args.line.now - 1) c.args.line.now (omega arith) w.if-line-n-eq13.false
      | else-n-gt0-via-else-n-gt0 w ↦ cr_none c.args.line.now (omega arith)
    ]
