use Rattle.std.proofs.Common.{ap, ◌∙◌, refl}
use Rattle.std.proofs.lemmas.Option.{slice_get_read}
use Rattle.ts_automaton.specs.AutomatonRun.{start_of}
use Rattle.ts_monitor.proofs.Moves.{start_taken}
use Rattle.ts_monitor.proofs.monitor.starts.Goals as goal

pub loop-place-preserved : goal.loop-place-preserved
loop-place-preserved c =
    start_taken c.args.machines.now c.loop-place.runs.items c.push.new.self.items c.loop-place.place c.index-machines-place.result c.start.result
    (slice_get_read c.args.machines.now _ c.loop-place.place c.index-machines-place.result refl c.loop-place-test.true c.index-machines-place.is)
    (c.start.ensures.value ∙ ap start_of c.forward.ensures) c.in_ok-push.ensures.items c.loop-place.invariant
