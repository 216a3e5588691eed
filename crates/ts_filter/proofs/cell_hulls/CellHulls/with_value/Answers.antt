use Rattle.std.proofs.Common.{◌≡◌, [], ◌∷◌, ap, ◌∙◌, sym, length, subst, w64, rules}
use Rattle.std.proofs.lemmas.Int.{to_z-of_z}
use Rattle.ts_base.specs.declared.span.Span.{Span}
use Rattle.ts_base.specs.Windows.{looked_at}
use Rattle.ts_bound.specs.Blocks.{last_at, split_at}
use Rattle.ts_bound.specs.Looks.{last_looked, place_in}
use Rattle.ts_bound.specs.TermSpans.{automata_of, value_span}
use Rattle.ts_bound.proofs.SpanEnds.{pair_is, split_value_ends, last_value_ends}
use Rattle.ts_glue.specs.Machines.{forward_of, pair_of, window_of}
use Rattle.ts_filter.specs.CellHulls.{AtCell, HasHulls, IsBackSide, Serves}
use Rattle.ts_filter.specs.SoFar.{WithParts}
use Rattle.ts_filter.proofs.Looked.{place_last, value_inside}
use Rattle.ts_filter.proofs.MeetLaws.{side_there}
use Rattle.ts_filter.proofs.cell_hulls.CellHulls.with_value.Goals as goal

pub split_value-requires-clause-serves : goal.split_value-requires-clause-serves
split_value-requires-clause-serves c = subst (λ (t : AtCell). Serves t c.args.so_far.asked) (sym c.self.view_is) c.requires.serves

pub last_value-requires-clause-serves : goal.last_value-requires-clause-serves
last_value-requires-clause-serves c = subst (λ (t : AtCell). Serves t c.args.so_far.asked) (sym c.self.view_is) c.requires.serves

pub returns-in-Some : goal.returns-in-Some
returns-in-Some c =
    let m = c.self.inside.machine.now in let b = c.self.inside.cells.now.present in let k = c.self.inside.cell in
    let there : HasHulls (automata_of m) k b = search rules in
    let back : IsBackSide (automata_of m) k b c.in-Some.back = search rules in
    let place = place_in (window_of m) k in let cells = looked_at (window_of m) b in
    subst (λ (s : Span). WithParts c.args.so_far (s ∷ []) c.split_value.result)
    (ap (split_at (forward_of m) (pair_of m) place cells) (to_z-of_z w64 c.args.v c.ranges.v)
    ∙ split_value_ends (automata_of m) place cells c.args.v (side_there (pair_of m) _ _ c.in-Some.back back) (pair_is m)
    ∙ sym (value_inside (automata_of m) k b there c.args.v)
    ∙ ap (λ (t : AtCell). value_span t.machine t.cell t.cells c.args.v) c.self.view_is)
    c.split_value.ensures

pub returns-in-None : goal.returns-in-None
returns-in-None c =
    let m = c.self.inside.machine.now in let b = c.self.inside.cells.now.present in let k = c.self.inside.cell in
    let there : HasHulls (automata_of m) k b = search rules in
    let last : k ≡ last_looked (window_of m) (length b) = search rules in
    let place = place_in (window_of m) k in let cells = looked_at (window_of m) b in
    subst (λ (s : Span). WithParts c.args.so_far (s ∷ []) c.last_value.result)
    (ap (last_at (forward_of m) place cells) (to_z-of_z w64 c.args.v c.ranges.v)
    ∙ last_value_ends (automata_of m) c.self.invariant.whole place cells c.args.v (place_last (automata_of m) k b there last)
    ∙ sym (value_inside (automata_of m) k b there c.args.v)
    ∙ ap (λ (t : AtCell). value_span t.machine t.cell t.cells c.args.v) c.self.view_is)
    c.last_value.ensures
