use Rattle.std.proofs.Common.{map, arith, refl, ◌∙◌, ap, sym, subst}
use mir.Val.{of_z, to_z}
use mir.Syntax.{w64}
use Rattle.ts_monitor.proofs.Readings.{as_passed}
use Rattle.std.proofs.lemmas.Option.{slice_get_read}
use Rattle.ts_automaton.specs.AutomatonRun.{Stands, standing_of, step_of}
use Rattle.ts_glue.specs.Machines.{forward_of}
use Rattle.ts_monitor.specs.Monitors.{moved}
use Rattle.ts_monitor.proofs.Moves.{has_room, run_stands, run_moved, run_ended}
use Rattle.ts_monitor.proofs.monitor.move_all.Goals as goal

pub index-requires : goal.index-requires
index-requires c =
    let room = has_room c.args.machines.now c.args.runs.now.items c.loop-place.runs.items _ _ c.loop-place.place c.requires c.loop-place.invariant
    c.loop-place-test.true in
    let ok = c.loop-place.runs.ok in
    omega (arith, room, ok)

pub step-requires : goal.step-requires
step-requires c =
    let room = has_room c.args.machines.now c.args.runs.now.items c.loop-place.runs.items _ _ c.loop-place.place c.requires c.loop-place.invariant
    c.loop-place-test.true in
    subst (λ b. Stands b (standing_of c.index.result.now)) (sym c.forward.ensures)
    (run_stands c.args.machines.now c.args.runs.now.items c.loop-place.runs.items _ _ c.loop-place.place c.index-machines-place.result c.index.result.now
    (slice_get_read c.args.machines.now _ c.loop-place.place c.index-machines-place.result refl c.loop-place-test.true c.index-machines-place.is)
    (slice_get_read c.loop-place.runs.items _ c.loop-place.place c.index.result.now refl room c.index.ensures) c.requires c.loop-place.invariant)

pub index_mut-requires : goal.index_mut-requires
index_mut-requires c =
    let room = has_room c.args.machines.now c.args.runs.now.items c.loop-place.runs.items _ _ c.loop-place.place c.requires c.loop-place.invariant
    c.loop-place-test.true in
    let ok = c.loop-place.runs.ok in
    omega (arith, room, ok)

pub loop-place-preserved : goal.loop-place-preserved
loop-place-preserved c =
    let room = has_room c.args.machines.now c.args.runs.now.items c.loop-place.runs.items _ _ c.loop-place.place c.requires c.loop-place.invariant
    c.loop-place-test.true in
    run_moved c.args.machines.now c.args.runs.now.items c.loop-place.runs.items _ _ c.loop-place.place c.index-machines-place.result c.index.result.now
    (slice_get_read c.args.machines.now _ c.loop-place.place c.index-machines-place.result refl c.loop-place-test.true c.index-machines-place.is)
    (slice_get_read c.loop-place.runs.items _ c.loop-place.place c.index.result.now refl room c.index.ensures) c.requires c.loop-place.invariant
    c.step.result (c.step.ensures.value ∙ ap (λ b. step_of b (standing_of c.index.result.now) (to_z w64 (of_z w64 c.args.this))
    (to_z w64 (of_z w64 c.args.next))) c.forward.ensures)

pub returns : goal.returns
returns c =
    let bodies = map forward_of c.args.machines.now in
    let old = map standing_of c.args.runs.now.items in
    run_ended c.args.machines.now c.args.runs.now.items c.loop-place.runs.items _ _ c.loop-place.place c.requires c.loop-place.invariant (grind arith)
    ∙ ap (λ z. moved bodies old z (to_z w64 (of_z w64 c.args.next))) (as_passed c.args.this c.ranges.this.sfits)
    ∙ ap (λ z. moved bodies old c.args.this z) (as_passed c.args.next c.ranges.next.sfits)
