use Rattle.std.proofs.Common.{◌≡◌, vec_len}
use Rattle.ts_run.proofs.StreamCalls.{Going}
use Rattle.ts_run.proofs.stream.run_live.Given as goal

abbrev pub invariant-loop-more : goal.invariant-loop-more
invariant-loop-more g l = record {
  going : Going g.L.Live.came g.L.Live.due l.limit l.spare (g.S.Source.left l.fn.source) (g.S.Source.left l.source)
      (g.K.Sink.taken l.fn.sink) (g.K.Sink.taken l.sink) l.live;
  room : vec_len l.buffer ≡ 65536;
  calm : g.S.Source.source_faults l.source ≡ g.S.Source.source_faults l.fn.source;
  ends : g.S.Source.source_ends l.source ≡ g.S.Source.source_ends l.fn.source;
  quiet : g.K.Sink.sink_faults l.sink ≡ g.K.Sink.sink_faults l.fn.sink;
  unfinished : g.K.Sink.finishes l.sink ≡ g.K.Sink.finishes l.fn.sink;
}

abbrev pub decreases-loop-more : goal.decreases-loop-more
decreases-loop-more g l = l.spare
