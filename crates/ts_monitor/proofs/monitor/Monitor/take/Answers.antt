use Rattle.std.proofs.Common.{◌≡◌, ◌+◌, map, ap, sym, subst, ◌∙◌, arith}
use mir.Val.{of_z, to_z}
use mir.Syntax.{w64}
use Rattle.ts_base.specs.Limits.{IsCellValue}
use Rattle.ts_automaton.specs.AutomatonRun.{standing_of}
use Rattle.ts_glue.specs.Machines.{forward_of}
use Rattle.ts_compile.specs.Compiled.{machine_body}
use Rattle.ts_monitor.specs.Monitors.{AllStand, moved_after}
use Rattle.ts_monitor.proofs.Moves.{after_stand}
use Rattle.ts_monitor.proofs.Readings.{reading_passed, taken}
use Rattle.ts_monitor.proofs.monitor.Monitor.take.Goals as goal

-- the automata move as their terms' bodies do
runs_moved : (c : goal.After-self-2-1) →
    map standing_of c.move_on.new.runs.items
    ≡ moved_after c.self.inside.count (map machine_body c.self.inside.program.terms.items)
    (map standing_of c.self.inside.runs.items) c.self.inside.last c.args.v
runs_moved c =
    let i = c.self.inside in
    let ss = map standing_of i.runs.items in
    let bs = map machine_body i.program.terms.items in
    c.move_on.ensures
    ∙ ap (λ ms. moved_after i.count (map forward_of ms) ss (to_z w64 (of_z w64 i.last)) (to_z w64 (of_z w64 c.args.v))) c.machines-machines.ensures
    ∙ ap (λ b. moved_after i.count b ss (to_z w64 (of_z w64 i.last)) (to_z w64 (of_z w64 c.args.v))) i.program.bodies
    ∙ ap (λ l. moved_after i.count bs ss l (to_z w64 (of_z w64 c.args.v))) (reading_passed i.last c.self.invariant.1)
    ∙ ap (λ v. moved_after i.count bs ss i.last v) (reading_passed c.args.v c.requires.reading)

pub invariant_of-self : goal.invariant_of-self
invariant_of-self c =
    let i = c.self.inside in
    let few = c.requires.few in
    let same = ap (λ w. w.count) c.self.view_is in (
      grind arith,
      subst IsCellValue (sym (reading_passed c.args.v c.requires.reading)) c.requires.reading,
      subst (AllStand (map machine_body i.program.terms.items)) (sym (runs_moved c))
          (after_stand i.count i.program.terms.items (map standing_of i.runs.items) i.last c.args.v c.self.invariant.2),
    )

pub returns-clause-stands : goal.returns-clause-stands
returns-clause-stands c =
    taken c.args.self.now _ c.args.v (ap (λ w. w.terms) c.self.view_is) (ap (λ w. w.count + 1) c.self.view_is)
    (reading_passed c.args.v c.requires.reading)
    (runs_moved c ∙ ap (λ w. moved_after w.count (map machine_body w.terms) w.standings w.last c.args.v) c.self.view_is)
    c.requires.reading
