use Rattle.ts_run.proofs.Runs.{is_watch, watch_ends}
use Rattle.ts_run.proofs.WatchStream.{watch_stream}
use Rattle.ts_run.proofs.call.run_stream.Goals as goal

pub run_live-requires-clause-stream : goal.run_live-requires-clause-stream
run_live-requires-clause-stream g c = watch_stream

pub unreachable-requires : goal.unreachable-requires
unreachable-requires g c = c.in_default.not-Watch (is_watch c.args.command.now c.args.limit c.requires.live)

pub returns-clause-ends : goal.returns-clause-ends
returns-clause-ends g c =
    watch_ends c.args.limit (g.S.Source.left c.args.source.now) (g.S.Source.left c.run_live.new.source) (g.S.Source.source_faults c.args.source.now)
    (g.S.Source.source_faults c.run_live.new.source) (g.K.Sink.taken c.args.sink.now) (g.K.Sink.taken c.run_live.new.sink) c.run_live.result
    c.args.command.now c.in-Watch.is c.run_live.ensures.ends
