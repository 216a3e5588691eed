use Rattle.std.proofs.Common.{◌≡◌, ◌≤◌, ◌<◌, get_or, length, map, ap, sym, subst, ◌∙◌, arith}
use Rattle.std.specs.Prelude.{slice_get, Some}
use Rattle.ts_automaton.specs.AutomatonRun.{Stands, finish_of, standing_of}
use Rattle.ts_decorate.specs.Answers.{longest}
use Rattle.ts_glue.specs.Machines.{forward_of}
use Rattle.ts_compile.specs.Compiled.{machine_body}
use Rattle.ts_monitor.proofs.Moves.{machine_there, run_there, standing_there, stands_there}
use Rattle.ts_monitor.proofs.Readings.{value_told}
use Rattle.ts_monitor.proofs.monitor.Monitor.value.Goals as goal

pub index-requires : goal.index-requires
index-requires c =
    let i = c.self.inside in
    let below = subst (λ w. c.args.term < length w.terms) (sym c.self.view_is) c.requires.term in
    let run = run_there i.program.terms.items i.program.machines.items i.runs.items i.program.bodies c.self.invariant.2 c.args.term below in
    let ok = i.runs.ok in
    omega (arith, run, ok)

pub finish-requires : goal.finish-requires
finish-requires c =
    let i = c.self.inside in
    let ts = i.program.terms.items in let ms = i.program.machines.items in let runs = i.runs.items in
    let below = subst (λ w. c.args.term < length w.terms) (sym c.self.view_is) c.requires.term in
    let m = c.index-machines-place.result in
    let is = subst (λ z. m ≡ get_or z c.args.term m) c.machines.ensures c.index-machines-place.is in
    subst (λ b. Stands b (standing_of c.index.result.now)) (sym c.forward-forward.ensures)
    (stands_there (map machine_body ts) (map standing_of runs) c.args.term _ (standing_of c.index.result.now) c.self.invariant.2
    (machine_there ts ms runs i.program.bodies c.self.invariant.2 c.args.term below m is)
    (standing_there ts ms runs i.program.bodies c.self.invariant.2 c.args.term below c.index.result.now c.index.ensures))

pub returns : goal.returns
returns c =
    let i = c.self.inside in
    let ts = i.program.terms.items in let ms = i.program.machines.items in let runs = i.runs.items in
    let below = subst (λ w. c.args.term < length w.terms) (sym c.self.view_is) c.requires.term in
    let m = c.index-machines-place.result in
    let is = subst (λ z. m ≡ get_or z c.args.term m) c.machines.ensures c.index-machines-place.is in
    let here = machine_there ts ms runs i.program.bodies c.self.invariant.2 c.args.term below m is in
    let stands = standing_there ts ms runs i.program.bodies c.self.invariant.2 c.args.term below c.index.result.now c.index.ensures in
    value_told c.args.self.now c.args.term (forward_of m) (standing_of c.index.result.now) c.finish.result c.requires.some
    (subst (λ w. w.count ≤ longest) c.self.view_is c.self.invariant.0)
    (subst (λ w. slice_get (map machine_body w.terms) c.args.term ≡ Some (forward_of m)) c.self.view_is here)
    (subst (λ w. slice_get w.standings c.args.term ≡ Some (standing_of c.index.result.now)) c.self.view_is stands)
    (c.finish.ensures ∙ ap (λ b. finish_of b (standing_of c.index.result.now) i.count) c.forward-forward.ensures
    ∙ ap (λ w. finish_of (forward_of m) (standing_of c.index.result.now) w.count) c.self.view_is)
