use Rattle.std.proofs.Common.{◌≡◌, subst, List, ℕ, sym, ◌∙◌}
use Rattle.std.specs.Prelude.{OnErr}
use Rattle.ts_base.specs.Outside.{Prefix}
use Rattle.ts_run.specs.Reply.{Ends}
use Rattle.ts_run.proofs.StreamLaws.{ended_input, on_err}
use Rattle.ts_run.proofs.StreamPieces.{may_be_written, no_read, stops_ended, stops_write, stops_write_lines}
use Rattle.ts_run.proofs.stream.serve_piece.Goals as goal

pub write_reply-requires : goal.write_reply-requires
write_reply-requires g c =
    let some = c.requires.some in
    may_be_written c.in-Ok-Some.status
    (ended_input g.L.Live.due g.L.Live.reply c.requires.stream _ c.in-Ok-Some.status (c.in-Ok-Some.ensures.ended some.0 some.1 ∙ c.in-Ok-Some.field-0-is))

pub returns-then-is_err-clause-serves : goal.returns-then-is_err-clause-serves
returns-then-is_err-clause-serves g c = λ bytes came.
    let before = g.K.Sink.taken c.args.sink.now in
    let after = g.K.Sink.taken c.write_all.new.sink in
    stops_write g.L.Live.due bytes c.args.piece.now c.clear.new.self.items c.take.new.text.items before after c.clear.ensures.items
    (c.in-Ok-None.ensures.put bytes came)
    (on_err (Prefix c.take.new.text.items before after) c.write_all.result (sym c.if-is_err.true ∙ c.is_err.ensures.value)
    (subst (λ (t : List ℕ). OnErr c.write_all.result (Prefix t before after)) c.deref-in-Ok-None.ensures.value c.write_all.ensures.front))

pub returns-then-is_err-2-clause-serves : goal.returns-then-is_err-2-clause-serves
returns-then-is_err-2-clause-serves g c = λ bytes came.
    let before = g.K.Sink.taken c.args.sink.now in
    let after = g.K.Sink.taken c.write_all-in-Err.new.sink in
    stops_write_lines g.L.Live.due bytes c.args.piece.now c.clear.new.self.items c.take.new.text.items before after c.clear.ensures.items
    (c.in-Err.ensures.lines bytes came)
    (on_err (Prefix c.take.new.text.items before after) c.write_all-in-Err.result (sym c.if-is_err-2.true ∙ c.is_err-in-Err.ensures.value)
    (subst (λ (t : List ℕ). OnErr c.write_all-in-Err.result (Prefix t before after)) c.deref-in-Err.ensures.value c.write_all-in-Err.ensures.front))

pub returns-in-Ok-Some-clause-serves : goal.returns-in-Ok-Some-clause-serves
returns-in-Ok-Some-clause-serves g c = λ bytes came.
    let before = g.K.Sink.taken c.args.sink.now in
    let after = g.K.Sink.taken c.write_reply.new.sink in
    let took = c.in-Ok-Some.ensures in
    stops_ended g.L.Live.due bytes c.args.piece.now c.clear.new.self.items c.take.new.text.items before after c.clear.ensures.items
    (took.put bytes came) c.in-Ok-Some.status c.write_reply.result (took.ended bytes came ∙ c.in-Ok-Some.field-0-is)
    (subst (λ (t : List ℕ). Ends (record { text = t; status = c.in-Ok-Some.status }) before after c.write_reply.result) c.deref.ensures.value
    c.write_reply.ensures.ends) c.write_reply.ensures.some

pub returns-in-Ok-Some-clause-reads : goal.returns-in-Ok-Some-clause-reads
returns-in-Ok-Some-clause-reads g c =
    let some = c.requires.some in
    λ e. no_read c.in-Ok-Some.status c.write_reply.result
    (ended_input g.L.Live.due g.L.Live.reply c.requires.stream _ c.in-Ok-Some.status (c.in-Ok-Some.ensures.ended some.0 some.1 ∙ c.in-Ok-Some.field-0-is))
    c.write_reply.ensures.written (let same : c.write_reply.result ≡ _ = cc in same)
