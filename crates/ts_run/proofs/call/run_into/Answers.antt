use Rattle.std.proofs.Common.{ap, subst, Err, List, ℕ}
use Rattle.ts_run.specs.AnswerTexts.{IsReply}
use Rattle.ts_run.specs.Reply.{Ends, reply_of}
use Rattle.ts_base.proofs.Pieces.{gave_bytes, told_all}
use Rattle.ts_run.proofs.Endings.{ends_given, ends_over, takes_all, takes_want}
use Rattle.ts_run.proofs.call.run_into.Goals as goal

pub returns-in-Err-TooLong-clause-ends : goal.returns-in-Err-TooLong-clause-ends
returns-in-Err-TooLong-clause-ends g c =
    let told = c.write_reply-in-Err-TooLong in
    let read = c.in-Err-TooLong in
    ends_over c.args.limit (IsReply c.args.command.now) (g.S.Source.source_faults c.args.source.now) (g.S.Source.source_faults c.take_all.new.source)
    (g.K.Sink.taken c.args.sink.now) (g.K.Sink.taken told.new.sink) told.result (g.S.Source.left c.args.source.now)
    (read.ensures.calm (λ e. let is = read.field-0-is in cc)) (read.ensures.too_long (ap Err read.field-0-is)) told.ensures.ends told.ensures.written

pub returns-in-Ok-reply-clause-ends : goal.returns-in-Ok-reply-clause-ends
returns-in-Ok-reply-clause-ends g c =
    let told = c.write_reply-in-Ok-reply in
    let read = c.in-Ok.ensures in
    let all = read.all in
    let reply = c.in-Ok-reply.reply in
    let before = g.K.Sink.taken c.args.sink.now in
    let after = g.K.Sink.taken told.new.sink in
    ends_given c.args.limit (IsReply c.args.command.now) (g.S.Source.source_faults c.args.source.now) (g.S.Source.source_faults c.take_all.new.source)
    before after told.result (g.S.Source.left c.args.source.now) all.bytes (reply_of reply) (read.calm (λ e. cc))
    (told_all all.bytes (g.S.Source.left c.args.source.now) (g.S.Source.left c.take_all.new.source) all.gave all.end) all.within
    (c.in-Ok-reply.ensures.reply all.bytes all.took) c.in-Ok-reply.ensures.status
    told.ensures.written
    (subst (λ (t : List ℕ). Ends (record { text = t; status = reply.status }) before after told.result) c.deref.ensures.value told.ensures.ends)

pub returns-in-Ok-reply-clause-takes : goal.returns-in-Ok-reply-clause-takes
returns-in-Ok-reply-clause-takes g c =
    let read = c.in-Ok.ensures in
    let all = read.all in
    takes_all c.args.limit (g.S.Source.left c.args.source.now) (g.S.Source.left c.take_all.new.source) c.write_reply-in-Ok-reply.result
    all.bytes read.gave all.within all.gave all.end

pub returns-clause-takes : goal.returns-clause-takes
returns-clause-takes g c =
    let read = c.in-Ok.ensures in
    let all = read.all in
    let left = g.S.Source.left c.args.source.now in
    let left_now = g.S.Source.left c.take_all.new.source in
    takes_want c.args.limit left left_now read.gave (gave_bytes c.args.limit all.bytes left left_now all.within all.gave)
