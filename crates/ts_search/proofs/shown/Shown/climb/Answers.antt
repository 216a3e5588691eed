use Rattle.std.proofs.Common.{◌∙◌, ap, refl, arith}
use Rattle.ts_base.specs.Windows.{looked_at}
use Rattle.ts_bound.specs.Looks.{first_looked, last_looked}
use Rattle.ts_bound.proofs.Reached.{box_length}
use Rattle.ts_glue.specs.Machines.{window_of}
use Rattle.ts_witness.specs.Witnesses.{series_of}
use Rattle.ts_search.proofs.Witnessed.{cell_from, cell_to, inside_few, place_below, seated_inside, value_at_place}
use Rattle.ts_search.proofs.shown.Shown.climb.Goals as goal

pub loop-k-init : goal.loop-k-init
loop-k-init c =
    let is_first = c.ends-first.ensures.first ∙ ap first_looked c.window.ensures in
    record { machine = refl; cells = refl; held = c.requires.held; from = omega (arith, is_first); inside = c.requires.inside }

pub cell-requires : goal.cell-requires
cell-requires c =
    let w = window_of c.args.self.now.machine.now in
    let b = c.args.cells.now.present in
    let is_first = c.ends-first.ensures.first ∙ ap first_looked c.window.ensures in
    let is_last = c.ends-first.ensures.last ∙ ap (λ z. last_looked z c.cells.result) c.window.ensures ∙ ap (last_looked w) c.cells.ensures.count in
    let k = c.loop-k.k in let first = c.ends-first.result.0 in let last = c.ends-first.result.1 in (
      cell_from w b c.requires.looks first last k is_first is_last c.loop-k.invariant.from c.loop-k-test.true,
      cell_to w b c.requires.looks first last k is_first is_last c.loop-k.invariant.from c.loop-k-test.true,
    )

pub better-left-requires-clause-few : goal.better-left-requires-clause-few
better-left-requires-clause-few c =
    inside_few (window_of c.args.self.now.machine.now) c.args.cells.now.present (series_of c.loop-k.self.witness) c.requires.looks c.requires.few
    c.loop-k.invariant.inside

pub better-left-requires-clause-to : goal.better-left-requires-clause-to
better-left-requires-clause-to c =
    let w = window_of c.args.self.now.machine.now in
    let b = c.args.cells.now.present in
    let is_first = c.ends-first.ensures.first ∙ ap first_looked c.window.ensures in
    let is_last = c.ends-first.ensures.last ∙ ap (λ z. last_looked z c.cells.result) c.window.ensures ∙ ap (last_looked w) c.cells.ensures.count in
    let below = place_below w b c.requires.looks c.ends-first.result.0 c.ends-first.result.1 c.loop-k.k is_first is_last c.loop-k.invariant.from
    c.loop-k-test.true in
    let count = box_length (series_of c.loop-k.self.witness) (looked_at w b) c.loop-k.invariant.inside in omega (arith, below, count, is_first)

pub better-left-requires-clause-there : goal.better-left-requires-clause-there
better-left-requires-clause-there c =
    let w = window_of c.args.self.now.machine.now in
    let b = c.args.cells.now.present in
    let is_first = c.ends-first.ensures.first ∙ ap first_looked c.window.ensures in
    let is_last = c.ends-first.ensures.last ∙ ap (λ z. last_looked z c.cells.result) c.window.ensures ∙ ap (last_looked w) c.cells.ensures.count in
    λ v e. value_at_place w b c.requires.looks c.ends-first.result.0 c.ends-first.result.1 c.loop-k.k is_first is_last c.loop-k.invariant.from
    c.loop-k-test.true
    (series_of c.loop-k.self.witness) c.cell.result.now v c.cell.ensures c.loop-k.invariant.inside e

pub loop-k-preserved : goal.loop-k-preserved
loop-k-preserved c =
    let w = window_of c.args.self.now.machine.now in
    let b = c.args.cells.now.present in
    let is_first = c.ends-first.ensures.first ∙ ap first_looked c.window.ensures in
    let is_last = c.ends-first.ensures.last ∙ ap (λ z. last_looked z c.cells.result) c.window.ensures ∙ ap (last_looked w) c.cells.ensures.count in
    let from = c.loop-k.invariant.from in
    record {
      machine = c.better-left.ensures.machine ∙ c.loop-k.invariant.machine;
      cells = c.better-left.ensures.cells ∙ c.loop-k.invariant.cells;
      held = c.better-left.ensures.held;
      from = omega (arith, from);
      inside = seated_inside w b c.requires.looks c.ends-first.result.0 c.ends-first.result.1 c.loop-k.k is_first is_last from c.loop-k-test.true
          (series_of c.loop-k.self.witness) (series_of c.better-left.new.self.witness) c.cell.result.now c.cell.ensures c.loop-k.invariant.inside
          c.better-left.ensures.seats;
    }
