use Rattle.std.proofs.Common.{sym}
use Rattle.ts_run.specs.Commands.{command_of, words_in}
use Rattle.ts_run.specs.Endings.{sink_tells, source_tells}
use Rattle.ts_run.proofs.Ranges.{keeps_ranges}
use Rattle.ts_run.proofs.Runs.{live_run, unread_at_once, unread_run, whole_run}
use Rattle.ts_run.proofs.call.run.Goals as goal

pub run_unread-requires : goal.run_unread-requires
run_unread-requires g c = unread_at_once c.in-Some.command (sym c.in-Nothing.ensures.input)

pub returns-in-Whole : goal.returns-in-Whole
returns-in-Whole g c =
    let whole = c.run_whole in
    let words = words_in c.args.words.now.items in
    whole_run
    (source_tells g.S.Source.left g.S.Source.source_faults g.S.Source.source_broken g.S.Source.source_ends)
    (sink_tells g.K.Sink.taken g.K.Sink.sink_faults g.K.Sink.sink_broken g.K.Sink.finished g.K.Sink.finishes)
    (command_of words) c.args.source.now c.args.sink.now whole.new.sink whole.result whole.ensures.writes c.in-Some.command (sym c.in-Some.ensures)
    (keeps_ranges words) whole.new.source c.in-Whole.limit whole.ensures.memory (sym c.in-Whole.ensures.input) whole.ensures.ends whole.ensures.takes
    whole.ensures.reads

pub returns-in-Nothing : goal.returns-in-Nothing
returns-in-Nothing g c =
    let unread = c.run_unread in
    let words = words_in c.args.words.now.items in
    unread_run
    (source_tells g.S.Source.left g.S.Source.source_faults g.S.Source.source_broken g.S.Source.source_ends)
    (sink_tells g.K.Sink.taken g.K.Sink.sink_faults g.K.Sink.sink_broken g.K.Sink.finished g.K.Sink.finishes)
    (command_of words) c.args.source.now c.args.sink.now unread.new.sink unread.result unread.ensures.writes c.in-Some.command (sym c.in-Some.ensures)
    (keeps_ranges words) unread.ensures.memory (sym c.in-Nothing.ensures.input) unread.ensures.ends unread.ensures.reads

pub returns-in-Live : goal.returns-in-Live
returns-in-Live g c =
    let live = c.run_stream in
    let words = words_in c.args.words.now.items in
    live_run
    (source_tells g.S.Source.left g.S.Source.source_faults g.S.Source.source_broken g.S.Source.source_ends)
    (sink_tells g.K.Sink.taken g.K.Sink.sink_faults g.K.Sink.sink_broken g.K.Sink.finished g.K.Sink.finishes)
    (command_of words) c.args.source.now c.args.sink.now live.new.sink live.result live.ensures.writes c.in-Some.command
    (sym c.in-Some.ensures) (keeps_ranges words) live.new.source c.in-Live.limit
    (λ e. (live.ensures.calm e, live.ensures.unfinished e)) (sym c.in-Live.ensures.input) live.ensures.ends live.ensures.reads
