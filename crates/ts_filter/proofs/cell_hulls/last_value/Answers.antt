use Rattle.std.proofs.Common.{◌≡◌, ap, ◌∙◌, length, refl, sym, subst}
use Rattle.ts_automaton.specs.Body.{Body}
use Rattle.ts_base.specs.Windows.{looked_at}
use Rattle.ts_bound.specs.Looks.{place_in}
use Rattle.ts_bound.specs.TermSpans.{automata_of}
use Rattle.ts_glue.specs.Machines.{forward_of, window_of}
use Rattle.ts_meet.specs.Meets.{finish_hull}
use Rattle.ts_bound.specs.AnyRows.{IsRowOf, columns, form_of, form_sides, lanes_of, viewed}
use Rattle.ts_bound.proofs.CellsRead.{counted, counted_as}
use Rattle.ts_filter.specs.Alike.{IsServed}
use Rattle.ts_filter.specs.Boxes.{values_at}
use Rattle.ts_filter.specs.CellHulls.{seen_before}
use Rattle.ts_filter.proofs.MeetLaws.{last_found, place_there, width_of_form}
use Rattle.ts_filter.proofs.cell_hulls.last_value.Goals as goal

pub returns : goal.returns
returns c =
    let m = c.args.m.now in let b = c.args.cells.now.present in let values = values_at c.args.k b in let row = viewed c.args.row.now in
    let place = place_in (window_of m) c.args.k in let cells = looked_at (window_of m) b in let n = c.looked_count-n.result in
    let count : n ≡ length cells =
    counted m b c.window.result c.cells.result n c.requires.hulls.looks c.window.ensures c.cells.ensures.count c.looked_count-n.ensures in
    let served = subst (λ z. IsServed (form_sides (form_of row)) (forward_of m).mark z c.args.so_far.asked)
    (counted_as m b c.window.result c.cells.result n c.window.ensures c.cells.ensures.count c.looked_count-n.ensures) c.requires.serves in
    last_found c.args.so_far c.with.result (forward_of m) place cells values c.args.i c.args.v row n c.finish.result c.requires.row c.requires.value
    c.requires.whole.forward served count
    (c.finish.ensures ∙ ap (λ (a : Body). finish_hull (lanes_of row) a (columns row) c.args.i n) c.forward.ensures)
    c.with.ensures

pub finish-requires : goal.finish-requires
finish-requires c =
    let b = c.args.cells.now.present in let before = seen_before (automata_of c.args.m.now) c.args.k b in let values = values_at c.args.k b in
    let a = c.forward.result.now in let row = subst (λ (x : Body). IsRowOf x before values (viewed c.args.row.now)) (sym c.forward.ensures) c.requires.row in
    record {
      width = width_of_form (viewed c.args.row.now) a row.width;
      place = place_there (lanes_of (viewed c.args.row.now)) a before values c.args.i c.args.v (columns (viewed c.args.row.now)) (length a.states) refl
          row.packed c.requires.value;
    }
