use Rattle.std.proofs.lemmas.List.{length-take-le, take_at}
use Rattle.std.proofs.Common.{rules, refl, None, ◌++◌, subst, ◌≡◌, ℕ, List, length, take, arith, ◌∙◌, ap, Some}
use Rattle.ts_base.specs.Outside.{Rose, put_back}
use Rattle.ts_run.specs.LiveSteps.{Serves, Stops}
use Rattle.ts_run.proofs.StreamCalls.{ends_end, ends_fault, ends_over, ends_start, ends_stop, going_none, going_on, not_read}
use Rattle.ts_run.proofs.StreamPieces.{in_lines}
use Rattle.ts_run.proofs.stream.run_live.Goals as goal

pub returns-in_default-clause-ends : goal.returns-in_default-clause-ends
returns-in_default-clause-ends g c =
    ends_start g.L.Live.due g.L.Live.reply c.requires.stream c.args.limit (g.S.Source.left c.args.source.now) (g.S.Source.left c.args.source.now)
    (g.S.Source.source_faults c.args.source.now) (g.S.Source.source_faults c.args.source.now) (g.K.Sink.taken c.args.sink.now)
    (g.K.Sink.taken c.args.sink.now) _ refl refl refl refl

pub loop-more-init : goal.loop-more-init
loop-more-init g c = record {
  going = going_none g.L.Live.came g.L.Live.due c.args.limit (g.S.Source.left c.args.source.now) (g.K.Sink.taken c.args.sink.now) c.args.live.now
      c.requires.stream.opens c.requires.none;
  room = search rules;
  calm = refl;
  ends = refl;
  quiet = refl;
  unfinished = refl;
}

pub returns-in_default-read_front-clause-ends : goal.returns-in_default-read_front-clause-ends
returns-in_default-read_front-clause-ends g c =
    let told = c.write_reply in
    ends_fault g.L.Live.due g.L.Live.reply c.requires.stream c.args.limit (g.S.Source.left c.args.source.now) (g.S.Source.left c.read_front.new.source)
    (g.S.Source.source_faults c.args.source.now) (g.S.Source.source_faults c.read_front.new.source) (g.K.Sink.taken c.args.sink.now)
    (g.K.Sink.taken told.new.sink) told.result g.L.Live.came c.loop-more.live c.loop-more.spare (g.S.Source.left c.loop-more.source)
    (g.K.Sink.taken c.loop-more.sink) c.loop-more.invariant.going c.in_default-read_front.ensures.kept
    (subst (λ (n : ℕ). Rose n (g.S.Source.source_faults c.read_front.new.source)) c.loop-more.invariant.calm c.in_default-read_front.ensures.cause)
    (in_lines _ (g.K.Sink.taken c.loop-more.sink) (g.K.Sink.taken told.new.sink) told.result told.ensures.ends told.ensures.some)

pub returns-in-Some-clause-ends : goal.returns-in-Some-clause-ends
returns-in-Some-clause-ends g c =
    let read = c.in-Ok-read_front.ensures in
    let at = c.loop-more.invariant in
    let before = g.K.Sink.taken c.loop-more.sink in
    let after = g.K.Sink.taken c.serve_piece.new.sink in
    let same = c.deref.ensures.value ∙ take_at c.read_front.new.buffer _ _ (omega (arith, read.size, c.deref_mut.ensures.len)) in
    ends_stop g.L.Live.due g.L.Live.reply c.requires.stream c.args.limit (g.S.Source.left c.args.source.now) (g.S.Source.left c.read_front.new.source)
    (g.S.Source.source_faults c.args.source.now) (g.S.Source.source_faults c.read_front.new.source) (g.K.Sink.taken c.args.sink.now)
    after c.in-Some.status g.L.Live.came c.loop-more.live c.loop-more.spare (g.S.Source.left c.loop-more.source) before at.going
    c.in-Ok-read_front.more c.min-fits.result c.read_front.new.buffer
    (omega (arith, read.within, read.size, c.min-asked.ensures)) read.gave (omega (arith, read.within, c.min-asked.ensures, at.room))
    (omega (arith, read.within, c.min-asked.ensures)) (omega (arith, c.min-fits.ensures)) (omega (arith, c.min-fits.ensures)) (read.calm ∙ at.calm)
    (subst (λ (t : List ℕ). Stops g.L.Live.due at.going.bytes (take c.min-fits.result t) before after c.in-Some.status) same
    (c.in-Some.ensures.serves at.going.bytes at.going.came)) (λ e. c.in-Some.ensures.reads (ap Some e))

pub returns-then-more-eq0-clause-ends : goal.returns-then-more-eq0-clause-ends
returns-then-more-eq0-clause-ends g c =
    let read = c.in-Ok-read_front.ensures in
    let at = c.loop-more.invariant in
    let zero_more : c.in-Ok-read_front.more ≡ 0 = search rules in
    ends_end g.L.Live.due g.L.Live.reply c.requires.stream c.args.limit (g.S.Source.left c.args.source.now) (g.S.Source.left c.read_front.new.source)
    (g.S.Source.source_faults c.args.source.now) (g.S.Source.source_faults c.read_front.new.source) (g.K.Sink.taken c.args.sink.now)
    (g.K.Sink.taken c.end_stream.new.sink) c.end_stream.result g.L.Live.came c.loop-more.live c.loop-more.spare (g.S.Source.left c.loop-more.source)
    (g.K.Sink.taken c.loop-more.sink) at.going
    (subst (λ (n : ℕ). g.S.Source.left c.loop-more.source ≡ put_back (take n c.read_front.new.buffer) (g.S.Source.left c.read_front.new.source))
    zero_more read.gave)
    (read.end zero_more) (read.calm ∙ at.calm) c.end_stream.ensures.reads (c.end_stream.ensures.ends at.going.bytes at.going.came)

pub serve_piece-requires-clause-some : goal.serve_piece-requires-clause-some
serve_piece-requires-clause-some g c =
    let at = c.loop-more.invariant in
    let read = c.in-Ok-read_front.ensures in
    let count = at.going.count in
    let same = c.deref.ensures.value ∙ take_at c.read_front.new.buffer _ _ (omega (arith, read.size, c.deref_mut.ensures.len)) in
    let long = length-take-le c.min-fits.result c.read_front.new.buffer
    (omega (arith, read.within, read.size, c.min-asked.ensures, c.min-fits.ensures)) in
    let long_piece = ap (λ (t : List ℕ). length (take c.min-fits.result t)) same in
    (at.going.bytes, at.going.came, omega (arith, count, long, long_piece, c.min-fits.ensures, c.requires.few))

pub end_stream-requires-clause-some : goal.end_stream-requires-clause-some
end_stream-requires-clause-some g c =
    let at = c.loop-more.invariant in
    let count = at.going.count in
    (at.going.bytes, at.going.came, omega (arith, count, c.requires.few))

pub loop-more-preserved : goal.loop-more-preserved
loop-more-preserved g c =
    let read = c.in-Ok-read_front.ensures in
    let at = c.loop-more.invariant in
    let served = c.in_default-serve_piece.ensures in
    let before = g.K.Sink.taken c.loop-more.sink in
    let after = g.K.Sink.taken c.serve_piece.new.sink in
    let same = c.deref.ensures.value ∙ take_at c.read_front.new.buffer _ _ (omega (arith, read.size, c.deref_mut.ensures.len)) in
    record {
      going = going_on g.L.Live.came g.L.Live.due c.args.limit c.loop-more.spare
          (g.S.Source.left c.args.source.now) (g.S.Source.left c.loop-more.source) (g.S.Source.left c.read_front.new.source)
          (g.K.Sink.taken c.args.sink.now) before after c.loop-more.live c.serve_piece.new.live at.going
          c.in-Ok-read_front.more c.min-fits.result c.read_front.new.buffer
          (omega (arith, read.within, read.size, c.min-asked.ensures)) read.gave (omega (arith, c.min-fits.ensures, c.if-more-spare.false))
          (omega (arith, c.if-more-spare.false))
          (subst (λ (t : List ℕ). Serves g.L.Live.due at.going.bytes (take c.min-fits.result t) before after None) same
          (served.serves at.going.bytes at.going.came))
          (subst (λ (t : List ℕ). g.L.Live.came (at.going.bytes ++ take c.min-fits.result t) c.serve_piece.new.live) same
          (served.goes_on refl at.going.bytes at.going.came));
      room = search rules;
      calm = read.calm ∙ at.calm;
      ends = search rules;
      quiet = served.writes.calm ∙ at.quiet;
      unfinished = served.writes.unfinished ∙ at.unfinished;
    }

pub returns-then-more-spare-clause-ends : goal.returns-then-more-spare-clause-ends
returns-then-more-spare-clause-ends g c =
    let read = c.in-Ok-read_front.ensures in
    let at = c.loop-more.invariant in
    let served = c.in_default-serve_piece.ensures in
    let last = c.write_reply-then-more-spare in
    let before = g.K.Sink.taken c.loop-more.sink in
    let took = g.K.Sink.taken c.serve_piece.new.sink in
    let same = c.deref.ensures.value ∙ take_at c.read_front.new.buffer _ _ (omega (arith, read.size, c.deref_mut.ensures.len)) in
    ends_over g.L.Live.due g.L.Live.reply c.requires.stream c.args.limit (g.S.Source.left c.args.source.now) (g.S.Source.left c.read_front.new.source)
    (g.S.Source.source_faults c.args.source.now) (g.S.Source.source_faults c.read_front.new.source) (g.K.Sink.taken c.args.sink.now)
    (g.K.Sink.taken last.new.sink) last.result g.L.Live.came c.loop-more.live c.loop-more.spare (g.S.Source.left c.loop-more.source) before at.going
    c.in-Ok-read_front.more c.min-fits.result c.read_front.new.buffer
    (omega (arith, read.within, read.size, c.min-asked.ensures)) read.gave (omega (arith, read.within, c.min-asked.ensures, at.room))
    (omega (arith, read.within, c.min-asked.ensures)) (omega (arith, c.min-fits.ensures)) (omega (arith, c.min-fits.ensures)) took
    (omega (arith, c.if-more-spare.true)) (omega (arith, c.min-fits.ensures, c.if-more-spare.true)) (read.calm ∙ at.calm)
    (subst (λ (t : List ℕ). Serves g.L.Live.due at.going.bytes (take c.min-fits.result t) before took None) same
    (served.serves at.going.bytes at.going.came))
    (in_lines _ took (g.K.Sink.taken last.new.sink) last.result last.ensures.ends last.ensures.some) (λ e. not_read last.result last.ensures.written e)
