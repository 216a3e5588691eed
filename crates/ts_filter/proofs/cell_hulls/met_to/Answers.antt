use Rattle.std.proofs.Common.{◌≡◌, length, subst}
use Rattle.ts_base.specs.Windows.{looked_at}
use Rattle.ts_bound.specs.Looks.{place_in}
use Rattle.ts_bound.specs.TermSpans.{automata_of}
use Rattle.ts_bound.proofs.SpanEnds.{pair_is}
use Rattle.ts_glue.specs.Machines.{forward_of, pair_of, window_of}
use Rattle.ts_bound.specs.AnyRows.{form_of, form_sides, viewed}
use Rattle.ts_bound.proofs.CellsRead.{counted, counted_as}
use Rattle.ts_filter.specs.Alike.{IsServed}
use Rattle.ts_filter.specs.Boxes.{values_at}
use Rattle.ts_filter.specs.CellHulls.{seen_after, seen_before}
use Rattle.ts_filter.proofs.MeetLaws.{as_wide, left_places, never_there, right_places, width_there}
use Rattle.ts_filter.proofs.cell_hulls.met_to.Goals as goal

pub settled_between-requires : goal.settled_between-requires
settled_between-requires c =
    let m = c.args.m.now in let b = c.args.cells.now.present in let before = seen_before (automata_of m) c.args.k b in
    let behind = seen_after (automata_of m) c.args.k b in let values = values_at c.args.k b in let f = forward_of m in
    let row = viewed c.args.row.now in
    record {
      form = c.requires.form;
      width = width_there f before behind values row c.args.back.now c.requires.row (pair_of m) (pair_is m) (as_wide m) c.requires.back;
      left = left_places f before behind values row c.args.back.now c.requires.row c.args.to c.requires.inside (pair_of m) (pair_is m)
          c.requires.back;
      right = right_places f before behind values row c.args.back.now c.requires.row c.args.to c.requires.inside (pair_of m) c.requires.back;
      order = c.requires.order;
    }

pub returns-clause-met : goal.returns-clause-met
returns-clause-met c i first last v is none =
    let m = c.args.m.now in let b = c.args.cells.now.present in let values = values_at c.args.k b in let row = viewed c.args.row.now in
    let place = place_in (window_of m) c.args.k in let cells = looked_at (window_of m) b in
    let count : c.looked_count-n.result ≡ length cells =
    counted m b c.window.result c.cells.result c.looked_count-n.result c.requires.hulls.looks c.window.ensures c.cells.ensures.count
    c.looked_count-n.ensures in
    let served = subst (λ z. IsServed (form_sides (form_of row)) (forward_of m).mark z c.args.asked)
    (counted_as m b c.window.result c.cells.result c.looked_count-n.result c.window.ensures c.cells.ensures.count c.looked_count-n.ensures)
    c.requires.serves in
    never_there c.args.asked (forward_of m) place cells values i v row c.args.back.now c.requires.form c.requires.row is c.looked_count-n.result count
    served (pair_of m) (pair_is m) (as_wide m) c.requires.back (λ p h. c.settled_between.ensures.settled p h i first last) none
