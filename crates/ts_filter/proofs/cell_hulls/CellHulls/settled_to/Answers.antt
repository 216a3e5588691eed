use Rattle.std.proofs.Common.{◌≡◌, ◌∙◌, Some, ap, slice_get, subst, sym, rules}
use Rattle.ts_base.specs.Windows.{looked_at}
use Rattle.ts_bound.specs.Looks.{place_in}
use Rattle.ts_bound.specs.TermSpans.{automata_of, value_span}
use Rattle.ts_bound.proofs.SpanEnds.{pair_is, split_value_ends}
use Rattle.ts_glue.specs.Machines.{pair_of, window_of}
use Rattle.ts_filter.specs.Boxes.{values_at}
use Rattle.ts_filter.specs.CellHulls.{AtCell, HasHulls, IsBackSide, Serves}
use Rattle.ts_filter.specs.Question.{Excludes}
use Rattle.ts_filter.proofs.Looked.{value_inside}
use Rattle.ts_filter.proofs.MeetLaws.{side_there}
use Rattle.ts_filter.proofs.cell_hulls.CellHulls.settled_to.Goals as goal

pub met_to-requires-clause-serves : goal.met_to-requires-clause-serves
met_to-requires-clause-serves c = subst (λ (t : AtCell). Serves t c.args.asked) (sym c.self.view_is) c.requires.serves

pub returns-in-Some-clause-met : goal.returns-in-Some-clause-met
returns-in-Some-clause-met c i first last v is none =
    let m = c.self.inside.machine.now in let b = c.self.inside.cells.now.present in let k = c.self.inside.cell in
    let there : HasHulls (automata_of m) k b = search rules in
    let back : IsBackSide (automata_of m) k b c.in-Some.back = search rules in
    let place = place_in (window_of m) k in let cells = looked_at (window_of m) b in
    c.met_to.ensures.met i first last v (subst (λ (t : AtCell). slice_get (values_at t.cell t.cells) i ≡ Some v) (sym c.self.view_is) is)
    (subst (Excludes c.args.asked)
    (sym
    (split_value_ends (automata_of m) place cells v (side_there (pair_of m) _ _ c.in-Some.back back) (pair_is m)
    ∙ sym (value_inside (automata_of m) k b there v) ∙ ap (λ (t : AtCell). value_span t.machine t.cell t.cells v) c.self.view_is))
    none)
