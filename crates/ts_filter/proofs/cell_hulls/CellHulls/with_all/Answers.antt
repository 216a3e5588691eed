use Rattle.std.proofs.Common.{◌≡◌, ◌+◌, ◌<◌, ◌≤◌, ap, ◌∙◌, sym, subst, length, arith}
use Rattle.ts_bound.specs.TermSpans.{term_span, value_span}
use Rattle.ts_filter.specs.Boxes.{values_at}
use Rattle.ts_filter.specs.CellHulls.{Serves}
use Rattle.ts_filter.proofs.Looked.{span_inside}
use Rattle.ts_filter.proofs.ManyLaws.{places_more, places_stop}
use Rattle.ts_filter.proofs.SoFarLaws.{none_begun, values_done}
use Rattle.ts_filter.proofs.cell_hulls.CellHulls.with_all.Goals as goal

pub loop-at-init : goal.loop-at-init
loop-at-init c =
    let t = c.args.self.now in (
      c.none-known.ensures.asked,
      none_begun c.args.asked (value_span t.machine t.cell t.cells) (values_at t.cell t.cells) c.none-known.result.span c.none-known.ensures.span,
      c.none-known.ensures.known,
      omega arith,
    )

pub with_places-requires : goal.with_places-requires
with_places-requires c =
    let long = ap length c.values-values.ensures.values in let inside = c.next_stop-to.ensures.inside in
    record {
      serves = subst (Serves c.args.self.now) (sym c.loop-at.invariant.0) c.requires;
      known = c.loop-at.invariant.2;
      order = c.next_stop-to.ensures.more;
      few = c.next_stop-to.ensures.few;
      inside = omega (arith, long, inside, c.size-count.ensures.size);
    }

pub shown_between-requires : goal.shown_between-requires
shown_between-requires c =
    let long = ap length c.values-values.ensures.values in let inside = c.next_stop-to.ensures.inside in
    record {
      serves = c.requires;
      order = c.next_stop-to.ensures.more;
      inside = omega (arith, long, inside, c.size-count.ensures.size);
    }

pub loop-at-preserved : goal.loop-at-preserved
loop-at-preserved c =
    let t = c.args.self.now in let all = values_at t.cell t.cells in let more = c.next_stop-to.ensures.more in
    let known = places_more c.loop-at.known c.args.asked (value_span t.machine t.cell t.cells) all (term_span t.machine t.cell t.cells) c.loop-at.at
    c.next_stop-to.result (omega (arith, more)) c.loop-at.invariant.0 (span_inside t.machine t.cell t.cells c.values-values.ensures.there)
    c.loop-at.invariant.1 c.in-Some.more c.in-Some.ensures in
    (known.0, known.1, known.2, c.next_stop-to.ensures.inside)

pub returns-in-None : goal.returns-in-None
returns-in-None c =
    let t = c.args.self.now in let all = values_at t.cell t.cells in let more = c.next_stop-to.ensures.more in
    places_stop c.loop-at.known c.args.asked (value_span t.machine t.cell t.cells) all (term_span t.machine t.cell t.cells) c.loop-at.at
    c.next_stop-to.result (omega (arith, more)) c.loop-at.invariant.0 (span_inside t.machine t.cell t.cells c.values-values.ensures.there)
    c.loop-at.invariant.1 c.in-None.ensures

pub returns : goal.returns
returns c =
    let t = c.args.self.now in let all = values_at t.cell t.cells in let long = ap length c.values-values.ensures.values in
    values_done c.loop-at.known c.args.asked (value_span t.machine t.cell t.cells) all (term_span t.machine t.cell t.cells) c.loop-at.at c.loop-at.invariant.0
    (span_inside t.machine t.cell t.cells c.values-values.ensures.there) c.loop-at.invariant.1 c.loop-at.invariant.2
    (omega (arith, long, c.loop-at-test.false, c.size-count.ensures.size))
