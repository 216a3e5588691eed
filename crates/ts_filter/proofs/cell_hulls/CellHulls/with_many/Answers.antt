use Rattle.std.proofs.Common.{◌≡◌, ◌∙◌, [], ◌∷◌, sym, subst, length, map, rules}
use Rattle.ts_base.specs.declared.span.Span.{Span}
use Rattle.ts_base.specs.Windows.{looked_at}
use Rattle.ts_bound.specs.Blocks.{last_at, split_at}
use Rattle.ts_bound.specs.Looks.{last_looked, place_in}
use Rattle.ts_bound.specs.TermSpans.{automata_of, value_span}
use Rattle.ts_bound.proofs.SpanEnds.{pair_is, split_value_ends, last_value_ends}
use Rattle.ts_glue.specs.Machines.{forward_of, pair_of, window_of}
use Rattle.ts_meet.specs.Meets.{hull_of_spans}
use Rattle.ts_filter.specs.Alike.{FindsAlike}
use Rattle.ts_filter.specs.Boxes.{values_at}
use Rattle.ts_filter.specs.CellHulls.{AtCell, HasHulls, IsBackSide, Serves, places_of}
use Rattle.ts_filter.specs.SoFar.{WithParts}
use Rattle.ts_filter.proofs.Looked.{place_last, value_inside}
use Rattle.ts_filter.proofs.ManyLaws.{map_same}
use Rattle.ts_filter.proofs.MeetLaws.{side_there}
use Rattle.ts_filter.proofs.SoFarLaws.{part_found}
use Rattle.ts_filter.proofs.cell_hulls.CellHulls.with_many.Goals as goal

pub split_places-requires-clause-serves : goal.split_places-requires-clause-serves
split_places-requires-clause-serves c = subst (λ (t : AtCell). Serves t c.args.so_far.asked) (sym c.self.view_is) c.requires.serves

pub returns-in-Some : goal.returns-in-Some
returns-in-Some c =
    let m = c.self.inside.machine.now in let b = c.self.inside.cells.now.present in let k = c.self.inside.cell in
    let there : HasHulls (automata_of m) k b = search rules in
    let back : IsBackSide (automata_of m) k b c.in-Some.back = search rules in
    let place = place_in (window_of m) k in let cells = looked_at (window_of m) b in
    subst (λ (t : AtCell). WithParts c.args.so_far
    (hull_of_spans (map (value_span t.machine t.cell t.cells) (places_of c.args.from c.args.to (values_at t.cell t.cells))) ∷ []) c.split_places.result)
    c.self.view_is
    (subst (λ l. WithParts c.args.so_far (hull_of_spans l ∷ []) c.split_places.result)
    (map_same (split_at (forward_of m) (pair_of m) place cells) (value_span (automata_of m) k b) (places_of c.args.from c.args.to (values_at k b))
    (λ v. split_value_ends (automata_of m) place cells v (side_there (pair_of m) _ _ c.in-Some.back back) (pair_is m)
    ∙ sym (value_inside (automata_of m) k b there v)))
    c.split_places.ensures)

pub returns-in-None : goal.returns-in-None
returns-in-None c =
    let m = c.self.inside.machine.now in let b = c.self.inside.cells.now.present in let k = c.self.inside.cell in let asked = c.args.so_far.asked in
    let there : HasHulls (automata_of m) k b = search rules in
    let last : k ≡ last_looked (window_of m) (length b) = search rules in
    let place = place_in (window_of m) k in let cells = looked_at (window_of m) b in
    let all : AtCell → Span =
    λ t. hull_of_spans (map (value_span t.machine t.cell t.cells) (places_of c.args.from c.args.to (values_at t.cell t.cells))) in
    part_found c.args.so_far c.last_places.result (all c.args.self.now) c.with.result
    (subst (λ (t : AtCell). FindsAlike asked c.last_places.result (all t)) c.self.view_is
    (subst (λ l. FindsAlike asked c.last_places.result (hull_of_spans l))
    (map_same (last_at (forward_of m) place cells) (value_span (automata_of m) k b) (places_of c.args.from c.args.to (values_at k b))
    (λ v. last_value_ends (automata_of m) c.self.invariant.whole place cells v (place_last (automata_of m) k b there last)
    ∙ sym (value_inside (automata_of m) k b there v)))
    (c.last_places.ensures asked (subst (λ (t : AtCell). Serves t asked) (sym c.self.view_is) c.requires.serves))))
    c.with.ensures
