use Rattle.std.proofs.Common.{◌∙◌, ap, refl, arith}
use Rattle.ts_base.proofs.WindowLaws.{few_looked}
use Rattle.ts_bound.specs.Looks.{first_looked, last_looked}
use Rattle.ts_glue.specs.Machines.{window_of}
use Rattle.ts_witness.specs.Witnesses.{series_of}
use Rattle.ts_search.proofs.Witnessed.{brought, cell_from, cell_to, next_inside, place_below, seats_length}
use Rattle.ts_search.proofs.shown.Shown.seat_all.Goals as goal

pub loop-k-init : goal.loop-k-init
loop-k-init c =
    let w = window_of c.args.self.now.machine.now in
    let b = c.args.cells.now.present in
    let is_first = c.ends-first.ensures.first ∙ ap first_looked c.window.ensures in
    let is_last = c.ends-first.ensures.last ∙ ap (λ z. last_looked z c.cells.result) c.window.ensures ∙ ap (last_looked w) c.cells.ensures.count in
    record {
      machine = refl;
      cells = refl;
      held = c.requires.held;
      count = c.requires.count;
      from = omega (arith, is_first);
      inside = λ i l. absurd (omega (arith, is_first, l));
    }

pub cell-requires : goal.cell-requires
cell-requires c =
    let w = window_of c.args.self.now.machine.now in
    let b = c.args.cells.now.present in
    let is_first = c.ends-first.ensures.first ∙ ap first_looked c.window.ensures in
    let is_last = c.ends-first.ensures.last ∙ ap (λ z. last_looked z c.cells.result) c.window.ensures ∙ ap (last_looked w) c.cells.ensures.count in
    let k = c.loop-k.k in let first = c.ends-first.result.0 in let last = c.ends-first.result.1 in (
      cell_from w b c.requires.looks first last k is_first is_last c.loop-k.invariant.from c.loop-k-test.true,
      cell_to w b c.requires.looks first last k is_first is_last c.loop-k.invariant.from c.loop-k-test.true,
    )

pub seat-requires-clause-few : goal.seat-requires-clause-few
seat-requires-clause-few c =
    let fewer = few_looked (window_of c.args.self.now.machine.now) c.args.cells.now.present c.requires.looks in
    let count = c.loop-k.invariant.count in let few = c.requires.few in omega (arith, fewer, count, few)

pub seat-requires-clause-to : goal.seat-requires-clause-to
seat-requires-clause-to c =
    let w = window_of c.args.self.now.machine.now in
    let b = c.args.cells.now.present in
    let is_first = c.ends-first.ensures.first ∙ ap first_looked c.window.ensures in
    let is_last = c.ends-first.ensures.last ∙ ap (λ z. last_looked z c.cells.result) c.window.ensures ∙ ap (last_looked w) c.cells.ensures.count in
    let below = place_below w b c.requires.looks c.ends-first.result.0 c.ends-first.result.1 c.loop-k.k is_first is_last c.loop-k.invariant.from
    c.loop-k-test.true in
    let count = c.loop-k.invariant.count in omega (arith, below, count, is_first)

pub loop-k-preserved : goal.loop-k-preserved
loop-k-preserved c =
    let w = window_of c.args.self.now.machine.now in
    let b = c.args.cells.now.present in
    let is_first = c.ends-first.ensures.first ∙ ap first_looked c.window.ensures in
    let is_last = c.ends-first.ensures.last ∙ ap (λ z. last_looked z c.cells.result) c.window.ensures ∙ ap (last_looked w) c.cells.ensures.count in
    let old = series_of c.loop-k.self.witness in let new = series_of c.seat.new.self.witness in
    let from = c.loop-k.invariant.from in
    record {
      machine = c.seat.ensures.machine ∙ c.loop-k.invariant.machine;
      cells = c.seat.ensures.cells ∙ c.loop-k.invariant.cells;
      held = c.seat.ensures.held;
      count = seats_length old new c.cell.result.now _ c.seat.ensures.seats ∙ c.loop-k.invariant.count;
      from = omega (arith, from);
      inside = next_inside w b c.requires.looks c.ends-first.result.0 c.ends-first.result.1 c.loop-k.k is_first is_last from c.loop-k-test.true old new
          c.cell.result.now c.loop-k.invariant.count c.cell.ensures c.loop-k.invariant.inside c.seat.ensures.seats;
    }

pub returns-clause-inside : goal.returns-clause-inside
returns-clause-inside c =
    let w = window_of c.args.self.now.machine.now in
    let b = c.args.cells.now.present in
    let is_first = c.ends-first.ensures.first ∙ ap first_looked c.window.ensures in
    let is_last = c.ends-first.ensures.last ∙ ap (λ z. last_looked z c.cells.result) c.window.ensures ∙ ap (last_looked w) c.cells.ensures.count in
    let end = c.loop-k-test.false in
    brought w b (series_of c.loop-k.self.witness) c.loop-k.k c.ends-first.result.1 c.requires.looks is_last (omega (arith, end)) c.loop-k.invariant.count
    c.loop-k.invariant.inside
