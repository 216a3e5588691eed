use Rattle.ts_transducer.specs.Rows.{rows_of}
use Rattle.ts_validate.specs.Reaches.{against}
use Rattle.ts_validate.specs.Validations.{pattern_of}
use Rattle.ts_user.specs.BuildAnswers.{values_of}
use Rattle.ts_user.specs.Views.{described_of}
use Rattle.ts_run.specs.Reply.{reply_of}
use Rattle.ts_run.proofs.MarkSteps.{never_refused, plan_refused, validated_as}
use Rattle.ts_run.proofs.mark.validated.Goals as goal

pub returns-in-Err : goal.returns-in-Err
returns-in-Err c = (
  plan_refused (described_of c.args.user) c.in-Err.stop (reply_of c.in_ok-reply-in-Err.reply) c.in-Err.ensures.stop c.in_ok-reply-in-Err.ensures.reply,
  c.in_ok-reply-in-Err.ensures.status,
)

pub returns-in-Ok-validate : goal.returns-in-Ok-validate
returns-in-Ok-validate c =
    let u = c.args.user in
    validated_as u (pattern_of c.in-Ok-validate.validated) (values_of (rows_of u.transducer) u.pattern c.in-Ok.plan) c.in-Ok.ensures.listed
    c.in-Ok-validate.ensures.pattern

pub unreachable-requires : goal.unreachable-requires
unreachable-requires c =
    let u = c.args.user in
    let stop = c.in-Err-Refused in
    never_refused (against (rows_of u.transducer) u.pattern c.in-Ok.plan) stop.field-0 stop.field-0-0 stop.field-0-1 stop.field-0-2 c.in-Ok.ensures.closed
    stop.ensures.refused stop.field-0-is
