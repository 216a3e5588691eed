use Rattle.std.proofs.Common.{◌≡◌, length, sym, subst, w64}
use Rattle.std.proofs.lemmas.Int.{to_z-of_z}
use Rattle.ts_base.specs.Limits.{IsCellValue}
use Rattle.ts_base.specs.Windows.{looked_at}
use Rattle.ts_bound.specs.Looks.{place_in}
use Rattle.ts_bound.specs.TermSpans.{automata_of}
use Rattle.ts_bound.proofs.SpanEnds.{pair_is}
use Rattle.ts_glue.specs.Machines.{forward_of, pair_of, window_of}
use Rattle.ts_bound.specs.AnyRows.{form_of, form_sides, viewed}
use Rattle.ts_bound.proofs.CellsRead.{counted, counted_as}
use Rattle.ts_filter.specs.Alike.{IsServed}
use Rattle.ts_filter.specs.Boxes.{values_at}
use Rattle.ts_filter.specs.CellHulls.{seen_after, seen_before}
use Rattle.ts_filter.proofs.CellLaws.{cell_value}
use Rattle.ts_filter.proofs.Looked.{cell_there}
use Rattle.ts_filter.proofs.MeetLaws.{as_wide, left_place, none_told, right_place, some_told, width_there}
use Rattle.ts_filter.proofs.cell_hulls.split_value.Goals as goal

pub asked_between-requires : goal.asked_between-requires
asked_between-requires c =
    let m = c.args.m.now in let b = c.args.cells.now.present in let before = seen_before (automata_of m) c.args.k b in
    let behind = seen_after (automata_of m) c.args.k b in let values = values_at c.args.k b in let row = viewed c.args.row.now in
    let there = cell_there (automata_of m) c.args.k b c.requires.hulls in
    let left = left_place (forward_of m) before behind values c.args.i c.args.v row c.args.back.now c.requires.row c.requires.value (pair_of m)
    (pair_is m) c.requires.back in
    let right = right_place (forward_of m) before behind values c.args.i c.args.v row c.args.back.now c.requires.row c.requires.value (pair_of m)
    c.requires.back in
    let value = subst IsCellValue (sym (to_z-of_z w64 c.args.v c.ranges.v))
    (cell_value b c.args.k c.args.i c.args.v c.cells.ensures.domains there.0 there.1 c.requires.value) in
    record {
      form = c.requires.form;
      width = width_there (forward_of m) before behind values row c.args.back.now c.requires.row (pair_of m) (pair_is m) (as_wide m)
          c.requires.back;
      whole = c.requires.known.form;
      known = c.requires.known.excluded;
      left = left;
      right = right;
      value = value;
    }

pub returns-in-Some : goal.returns-in-Some
returns-in-Some c =
    let m = c.args.m.now in let b = c.args.cells.now.present in let row = viewed c.args.row.now in
    let place = place_in (window_of m) c.args.k in let cells = looked_at (window_of m) b in
    let count : c.looked_count-n.result ≡ length cells =
    counted m b c.window.result c.cells.result c.looked_count-n.result c.requires.hulls.looks c.window.ensures c.cells.ensures.count
    c.looked_count-n.ensures in
    let served = subst (λ z. IsServed (form_sides (form_of row)) (forward_of m).mark z c.args.so_far.asked)
    (counted_as m b c.window.result c.cells.result c.looked_count-n.result c.window.ensures c.cells.ensures.count c.looked_count-n.ensures)
    c.requires.serves in
    some_told c.args.so_far (forward_of m) place cells (values_at c.args.k b) c.args.i c.args.v row c.args.back.now c.requires.form c.requires.row
    c.requires.value c.looked_count-n.result count served _ (to_z-of_z w64 c.args.v c.ranges.v) (pair_of m) c.in-Some.span (pair_is m) (as_wide m)
    c.requires.back c.in-Some.ensures

pub returns-in-None : goal.returns-in-None
returns-in-None c =
    let m = c.args.m.now in let b = c.args.cells.now.present in let row = viewed c.args.row.now in
    let place = place_in (window_of m) c.args.k in let cells = looked_at (window_of m) b in
    let count : c.looked_count-n.result ≡ length cells =
    counted m b c.window.result c.cells.result c.looked_count-n.result c.requires.hulls.looks c.window.ensures c.cells.ensures.count
    c.looked_count-n.ensures in
    let served = subst (λ z. IsServed (form_sides (form_of row)) (forward_of m).mark z c.args.so_far.asked)
    (counted_as m b c.window.result c.cells.result c.looked_count-n.result c.window.ensures c.cells.ensures.count c.looked_count-n.ensures)
    c.requires.serves in
    none_told c.args.so_far (forward_of m) place cells (values_at c.args.k b) c.args.i c.args.v row c.args.back.now c.requires.form c.requires.row
    c.requires.value c.looked_count-n.result count served _ (to_z-of_z w64 c.args.v c.ranges.v) (pair_of m) (pair_is m) (as_wide m) c.requires.back
    c.in-None.ensures
