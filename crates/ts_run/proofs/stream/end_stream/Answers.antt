use Rattle.std.proofs.Common.{List, subst, ℕ}
use Rattle.ts_run.specs.Reply.{Ends}
use Rattle.ts_run.proofs.StreamPieces.{ends_given, ends_wanting, given_input, may_be_written, no_read}
use Rattle.ts_run.proofs.stream.end_stream.Goals as goal

pub write_reply-requires : goal.write_reply-requires
write_reply-requires g c =
    let some = c.requires.some in
    may_be_written c.in-Ok.status
    (given_input (g.L.Live.due some.0) (g.L.Live.reply some.0) c.clear.new.self.items c.finish.new.text.items c.in-Ok.status
    (c.in-Ok.ensures.put some.0 some.1) (c.requires.stream.input some.0))

pub returns-in-Ok-clause-ends : goal.returns-in-Ok-clause-ends
returns-in-Ok-clause-ends g c = λ bytes came.
    let before = g.K.Sink.taken c.args.sink.now in
    let after = g.K.Sink.taken c.write_reply.new.sink in
    ends_given (g.L.Live.due bytes) (g.L.Live.reply bytes) c.clear.new.self.items c.finish.new.text.items before after c.in-Ok.status c.write_reply.result
    c.clear.ensures.items (c.in-Ok.ensures.put bytes came)
    (subst (λ (t : List ℕ). Ends (record { text = t; status = c.in-Ok.status }) before after c.write_reply.result) c.deref.ensures.value
    c.write_reply.ensures.ends) c.write_reply.ensures.some

pub returns-in-Ok-clause-reads : goal.returns-in-Ok-clause-reads
returns-in-Ok-clause-reads g c =
    let some = c.requires.some in
    no_read c.in-Ok.status c.write_reply.result
    (given_input (g.L.Live.due some.0) (g.L.Live.reply some.0) c.clear.new.self.items c.finish.new.text.items c.in-Ok.status
    (c.in-Ok.ensures.put some.0 some.1) (c.requires.stream.input some.0)) c.write_reply.ensures.written

pub returns-in-Err-clause-ends : goal.returns-in-Err-clause-ends
returns-in-Err-clause-ends g c = λ bytes came.
    ends_wanting (g.L.Live.due bytes) (g.L.Live.reply bytes) (g.K.Sink.taken c.args.sink.now) (c.requires.stream.begins bytes)
