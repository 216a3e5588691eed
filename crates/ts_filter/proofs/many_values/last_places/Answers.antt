use Rattle.std.proofs.Common.{◌≡◌, ◌+◌, ◌-◌, length, ap, ◌∙◌, refl, sym, subst, arith}
use Rattle.ts_automaton.specs.Body.{Body}
use Rattle.ts_base.specs.Windows.{looked_at}
use Rattle.ts_bound.specs.Looks.{place_in}
use Rattle.ts_bound.specs.TermSpans.{automata_of}
use Rattle.ts_glue.specs.Machines.{forward_of, window_of}
use Rattle.ts_meet.specs.Along.{finish_along}
use Rattle.ts_bound.specs.AnyRows.{IsRowOf, columns, form_of, form_sides, lanes_of, viewed}
use Rattle.ts_bound.proofs.CellsRead.{counted, counted_as}
use Rattle.ts_filter.specs.Alike.{IsServed}
use Rattle.ts_filter.specs.Boxes.{values_at}
use Rattle.ts_filter.specs.CellHulls.{seen_before}
use Rattle.ts_filter.proofs.ManyLaws.{many_last}
use Rattle.ts_filter.proofs.MeetLaws.{places_there, width_of_form}
use Rattle.ts_filter.proofs.many_values.last_places.Goals as goal

pub finish_along-requires : goal.finish_along-requires
finish_along-requires c =
    let b = c.args.cells.now.present in let before = seen_before (automata_of c.args.m.now) c.args.k b in let values = values_at c.args.k b in
    let view = viewed c.args.row.now in let from = c.args.from in let to = c.args.to in
    let a = c.forward.result.now in let row = subst (λ (x : Body). IsRowOf x before values view) (sym c.forward.ensures) c.requires.row in
    record {
      width = width_of_form view a row.width;
      places = places_there (lanes_of view) a before values (columns view) (length a.states) refl row.packed (from + (to - from))
          (let order = c.requires.order in let inside = c.requires.inside in omega (arith, order, inside));
    }

pub returns : goal.returns
returns c asked serves =
    let m = c.args.m.now in let b = c.args.cells.now.present in let values = values_at c.args.k b in let row = viewed c.args.row.now in
    let place = place_in (window_of m) c.args.k in let cells = looked_at (window_of m) b in let n = c.looked_count-n.result in
    let count : n ≡ length cells =
    counted m b c.window.result c.cells.result n c.requires.hulls.looks c.window.ensures c.cells.ensures.count c.looked_count-n.ensures in
    let served = subst (λ z. IsServed (form_sides (form_of row)) (forward_of m).mark z asked)
    (counted_as m b c.window.result c.cells.result n c.window.ensures c.cells.ensures.count c.looked_count-n.ensures) serves in
    many_last asked (forward_of m) place cells values row n c.args.from c.args.to c.finish_along.result c.requires.row c.requires.whole.forward served count
    c.requires.order c.requires.inside
    (c.finish_along.ensures
    ∙ ap (λ (a : Body). finish_along (lanes_of row) a (columns row) c.args.from (c.args.to - c.args.from) n) c.forward.ensures)
