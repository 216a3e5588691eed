use Rattle.std.proofs.Common.{◌≡◌, sym, ap, ◌∙◌, subst}
use Rattle.ts_automaton.specs.Registers.{EachOf, each}
use Rattle.ts_sweep.specs.declared.packed.Ends.{Ends}
use Rattle.ts_sweep.specs.declared.packed.Name.{Name}
use Rattle.ts_sweep.specs.declared.packed.Name.TheVariants.{C, E, D, F, R}
use Rattle.ts_sweep.specs.MoveLaws.{wide_of}
use Rattle.ts_sweep.specs.Moves.{beside}
use Rattle.ts_sweep.specs.Packed.{ends_in, is_wide, place}
use Rattle.ts_sweep.specs.Sides.{as_read}
use Rattle.ts_sweep.proofs.Replaced.{same_each, same_replaced}
use Rattle.ts_sweep.proofs.RunSteps.{as_passed}
use Rattle.ts_sweep.proofs.moves.PartsEachPart.all_closed.Goals as goal

pub closed-c-requires-clause-closable : goal.closed-c-requires-clause-closable
closed-c-requires-clause-closable g c = subst (g.C.Part.closable c.args.self.c) (sym c.ends.ensures.placed) (c.requires.closable C)

pub closed-d-requires-clause-closable : goal.closed-d-requires-clause-closable
closed-d-requires-clause-closable g c = subst (g.D.Part.closable c.args.self.d) (sym c.ends-2.ensures.placed) (c.requires.closable D)

pub closed-r-requires-clause-closable : goal.closed-r-requires-clause-closable
closed-r-requires-clause-closable g c = subst (g.R.Part.closable c.args.self.r) (sym c.ends-3.ensures.placed) (c.requires.closable R)

pub closed_beside-e-requires-clause-closable : goal.closed_beside-e-requires-clause-closable
closed_beside-e-requires-clause-closable g c = wide_of (is_wide g.H.Packed.count) 1 _ (c.requires.closable E)

pub closed_beside-f-requires-clause-closable : goal.closed_beside-f-requires-clause-closable
closed_beside-f-requires-clause-closable g c = wide_of (is_wide g.H.Packed.count) 3 _ (c.requires.closable F)

pub returns : goal.returns
returns g c =
    let n = g.H.Packed.count in
    let replaced = g.H.Packed.replaced in
    let xs = g.H.Packed.lanes c.args.run in
    let parts = c.args.self in
    let y = c.args.y in
    let small = c.requires.small in
    let wide = is_wide n in
    let at : Name → Ends = λ k. ends_in (as_read g.H.Packed.sides xs) (place n k) in
    let made : EachOf Ends =
    each c.closed-c.result c.closed_beside-e.result c.closed-d.result c.closed_beside-f.result c.closed-r.result in
    let closed : EachOf Ends =
    each (g.C.Part.closing parts.c (at C) y) (beside wide (g.E.Part.closing parts.e (at E) y)) (g.D.Part.closing parts.d (at D) y)
    (beside wide (g.F.Part.closing parts.f (at F) y)) (g.R.Part.closing parts.r (at R) y) in
    let is = c.with-5.ensures ∙ ap (λ z. replaced z R made.r) (c.with-4.ensures ∙ ap (λ z. replaced z F made.f)
    (c.with-3.ensures ∙ ap (λ z. replaced z D made.d) (c.with-2.ensures ∙ ap (λ z. replaced z E made.e) c.with.ensures))) in
    let same : made ≡ closed =
    same_each
    (as_passed (λ z. made.c ≡ g.C.Part.closing parts.c c.ends.result z) y small c.closed-c.ensures
    ∙ ap (λ e. g.C.Part.closing parts.c e y) c.ends.ensures.placed)
    (as_passed (λ z. made.e ≡ beside wide (g.E.Part.closing parts.e (at E) z)) y small c.closed_beside-e.ensures)
    (as_passed (λ z. made.d ≡ g.D.Part.closing parts.d c.ends-2.result z) y small c.closed-d.ensures
    ∙ ap (λ e. g.D.Part.closing parts.d e y) c.ends-2.ensures.placed)
    (as_passed (λ z. made.f ≡ beside wide (g.F.Part.closing parts.f (at F) z)) y small c.closed_beside-f.ensures)
    (as_passed (λ z. made.r ≡ g.R.Part.closing parts.r c.ends-3.result z) y small c.closed-r.ensures
    ∙ ap (λ e. g.R.Part.closing parts.r e y) c.ends-3.ensures.placed) in
    is ∙ same_replaced replaced c.args.run made closed same
