use Rattle.std.proofs.Common.{◌≡◌, ◌+◌, ◌-◌, ◌<◌, ◌≤◌, ℕ, pos, get_or, length, map, take, ap, ◌∙◌, sym, subst, arith}
use Rattle.std.specs.Prelude.{None, Some}
use Rattle.std.proofs.lemmas.Option.{slice_get-get_or}
use Rattle.ts_base.specs.Limits.{IsCellValue}
use Rattle.ts_base.specs.Spans.{span_hull}
use Rattle.ts_base.specs.Windows.{looked_at}
use Rattle.ts_bound.specs.Blocks.{split_at}
use Rattle.ts_bound.specs.Looks.{place_in}
use Rattle.ts_bound.specs.TermSpans.{automata_of}
use Rattle.ts_bound.proofs.SpanEnds.{pair_is}
use Rattle.ts_glue.specs.Machines.{forward_of, pair_of, window_of}
use Rattle.ts_meet.specs.Asked.{IsAnswer}
use Rattle.ts_meet.specs.Meets.{hull_of_spans}
use Rattle.ts_bound.specs.AnyRows.{form_of, form_sides, viewed}
use Rattle.ts_bound.proofs.CellsRead.{counted, counted_as}
use Rattle.ts_filter.specs.Alike.{IsServed}
use Rattle.ts_filter.specs.Boxes.{values_at}
use Rattle.ts_filter.specs.CellHulls.{places_of, seen_after, seen_before}
use Rattle.ts_filter.specs.Question.{Excludes}
use Rattle.ts_filter.proofs.CellLaws.{cell_value, cells_by_place}
use Rattle.ts_filter.proofs.Looked.{cell_there}
use Rattle.ts_filter.proofs.ManyLaws.{front_listed, front_long, many_split}
use Rattle.ts_filter.proofs.MeetLaws.{as_wide, left_places, none_by, right_places, some_by, width_there}
use Rattle.ts_filter.proofs.many_values.split_places.Goals as goal

pub asked_values-requires : goal.asked_values-requires
asked_values-requires c =
    let m = c.args.m.now in let b = c.args.cells.now.present in let k = c.args.k in let values = values_at k b in let row = viewed c.args.row.now in
    let from = c.args.from in let to = c.args.to in let order = c.requires.order in let inside = c.requires.inside in
    let list = take ((to - from) - 0) c.listed-listed.result in
    let long : length list ≡ to - from = front_long c.listed-listed.result from to c.listed-listed.ensures.length c.requires.few in
    let listed : (i : ℕ) → i < to - from → get_or list i (pos 0) ≡ get_or values (from + i) (pos 0) =
    front_listed c.listed-listed.result values from to
    (λ i lt. c.listed-listed.ensures.values i lt ∙ ap (λ l. get_or l (from + i) (pos 0)) c.cell.ensures) in
    let before = seen_before (automata_of m) k b in let behind = seen_after (automata_of m) k b in let f = forward_of m in
    let last : from + length list ≤ length values = omega (arith, long, order, inside) in
    let there = cell_there (automata_of m) k b c.requires.hulls in
    record {
      form = c.requires.form;
      width = width_there f before behind values row c.args.back.now c.requires.row (pair_of m) (pair_is m) (as_wide m) c.requires.back;
      left = left_places f before behind values row c.args.back.now c.requires.row (from + length list) last (pair_of m) (pair_is m) c.requires.back;
      right = right_places f before behind values row c.args.back.now c.requires.row (from + length list) last (pair_of m) c.requires.back;
      values = cells_by_place list (λ i lt.
          let there_too : i < to - from = omega (arith, lt, long) in let at : from + i < length values = omega (arith, there_too, order, inside) in
          subst IsCellValue (sym (listed i there_too))
          (cell_value b k (from + i) (get_or values (from + i) (pos 0)) c.cells.ensures.domains there.0 there.1
          (slice_get-get_or values (from + i) (pos 0) at)));
    }

pub returns-in-Some : goal.returns-in-Some
returns-in-Some c =
    let m = c.args.m.now in let b = c.args.cells.now.present in let k = c.args.k in let values = values_at k b in let row = viewed c.args.row.now in
    let from = c.args.from in let to = c.args.to in let order = c.requires.order in let inside = c.requires.inside in let known = c.args.so_far in
    let list = take ((to - from) - 0) c.listed-listed.result in
    let long : length list ≡ to - from = front_long c.listed-listed.result from to c.listed-listed.ensures.length c.requires.few in
    let listed : (i : ℕ) → i < to - from → get_or list i (pos 0) ≡ get_or values (from + i) (pos 0) =
    front_listed c.listed-listed.result values from to
    (λ i lt. c.listed-listed.ensures.values i lt ∙ ap (λ l. get_or l (from + i) (pos 0)) c.cell.ensures) in
    let place = place_in (window_of m) k in let cells = looked_at (window_of m) b in let n = c.looked_count-n.result in
    let count : n ≡ length cells =
    counted m b c.window.result c.cells.result n c.requires.hulls.looks c.window.ensures c.cells.ensures.count c.looked_count-n.ensures in
    let served = subst (λ z. IsServed (form_sides (form_of row)) (forward_of m).mark z known.asked)
    (counted_as m b c.window.result c.cells.result n c.window.ensures c.cells.ensures.count c.looked_count-n.ensures) c.requires.serves in
    let found = many_split known.asked (forward_of m) place cells values row c.args.back.now c.requires.form c.requires.row n count served from to order
    inside list long listed (λ s. IsAnswer (Excludes known.asked) (span_hull known.span s) (Some c.in-Some.span)) (pair_of m) (pair_is m) (as_wide m)
    c.requires.back c.in-Some.ensures in
    let spans = hull_of_spans (map (split_at (forward_of m) (pair_of m) place cells) (places_of from to values)) in
    some_by known found.0 spans c.in-Some.span found.1 found.2

pub returns-in-None : goal.returns-in-None
returns-in-None c =
    let m = c.args.m.now in let b = c.args.cells.now.present in let k = c.args.k in let values = values_at k b in let row = viewed c.args.row.now in
    let from = c.args.from in let to = c.args.to in let order = c.requires.order in let inside = c.requires.inside in let known = c.args.so_far in
    let list = take ((to - from) - 0) c.listed-listed.result in
    let long : length list ≡ to - from = front_long c.listed-listed.result from to c.listed-listed.ensures.length c.requires.few in
    let listed : (i : ℕ) → i < to - from → get_or list i (pos 0) ≡ get_or values (from + i) (pos 0) =
    front_listed c.listed-listed.result values from to
    (λ i lt. c.listed-listed.ensures.values i lt ∙ ap (λ l. get_or l (from + i) (pos 0)) c.cell.ensures) in
    let place = place_in (window_of m) k in let cells = looked_at (window_of m) b in let n = c.looked_count-n.result in
    let count : n ≡ length cells =
    counted m b c.window.result c.cells.result n c.requires.hulls.looks c.window.ensures c.cells.ensures.count c.looked_count-n.ensures in
    let served = subst (λ z. IsServed (form_sides (form_of row)) (forward_of m).mark z known.asked)
    (counted_as m b c.window.result c.cells.result n c.window.ensures c.cells.ensures.count c.looked_count-n.ensures) c.requires.serves in
    let found = many_split known.asked (forward_of m) place cells values row c.args.back.now c.requires.form c.requires.row n count served from to order
    inside list long listed (λ s. IsAnswer (Excludes known.asked) (span_hull known.span s) None) (pair_of m) (pair_is m) (as_wide m)
    c.requires.back c.in-None.ensures in
    let spans = hull_of_spans (map (split_at (forward_of m) (pair_of m) place cells) (places_of from to values)) in
    none_by known found.0 spans found.1 found.2
