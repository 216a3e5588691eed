use Rattle.std.proofs.Common.{◌≡◌, ◌<◌, ◌≤◌, ◌-◌, take, length, false}
use Rattle.ts_base.specs.Outside.{taken_more}
use Rattle.ts_base.proofs.read_write.write_all.Given as goal

abbrev pub invariant-loop-done : goal.invariant-loop-done
invariant-loop-done g l = record {
  took : g.K.Sink.taken l.sink ≡ taken_more (g.K.Sink.taken l.fn.sink) (take l.done l.bytes);
  within : l.done ≤ length l.bytes;
  calm : g.K.Sink.sink_faults l.sink ≡ g.K.Sink.sink_faults l.fn.sink;
  unfinished : 0 < l.done → g.K.Sink.finished l.sink ≡ false;
  writes : g.K.Sink.finishes l.sink ≡ g.K.Sink.finishes l.fn.sink;
  later : g.K.Sink.sink_faults l.fn.sink ≤ g.K.Sink.sink_faults l.sink;
}

abbrev pub decreases-loop-done : goal.decreases-loop-done
decreases-loop-done g l = length l.bytes - l.done
