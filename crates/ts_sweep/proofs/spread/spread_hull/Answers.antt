use Rattle.std.proofs.Common.{◌≡◌, Bool, ℤ, ap, ◌∙◌}
use Rattle.ts_base.specs.declared.op.Op.TheVariants.{Max, Min}
use Rattle.ts_automaton.specs.Registers.{EachOf, each}
use Rattle.ts_sweep.specs.declared.packed.Ends.{Ends}
use Rattle.ts_sweep.specs.declared.packed.Name.TheVariants.{C, E, D, F, R}
use Rattle.ts_sweep.specs.Packed.{name_ends}
use Rattle.ts_sweep.specs.PairMoves.{start_ends}
use Rattle.ts_sweep.specs.Sides.{as_read}
use Rattle.ts_sweep.specs.Spreads.{spread_ends, top_of}
use Rattle.ts_sweep.proofs.Replaced.{same_each, same_replaced}
use Rattle.ts_sweep.proofs.RunSteps.{as_passed}
use Rattle.ts_sweep.proofs.spread.spread_hull.Goals as goal

pub returns : goal.returns
returns g c =
    let replaced = g.H.Packed.replaced in
    let xs = as_read g.H.Packed.sides (g.H.Packed.lanes c.args.h) in
    let tops : ℤ → Bool → Bool → ℤ = top_of g.H.Packed.lanes g.H.Packed.sides g.H.Hull.none c.args.before.now c.args.letter c.args.twin
    (g.V.Values.len c.args.values) (g.V.Values.value c.args.values) in
    let e : EachOf Ends = each c.ends-c.result c.ends-e.result c.start_ends-d.result c.start_ends-f.result c.spread_ends-r.result in
    let is = c.with-5.ensures ∙ ap (λ z. replaced z R e.r) (c.with-4.ensures ∙ ap (λ z. replaced z F e.f)
    (c.with-3.ensures ∙ ap (λ z. replaced z D e.d) (c.with-2.ensures ∙ ap (λ z. replaced z E e.e) c.with.ensures))) in
    is
    ∙ same_replaced replaced c.args.h e
    (each (name_ends xs C) (name_ends xs E) (start_ends Max) (start_ends Min) (spread_ends c.args.greatest (tops c.args.w) (name_ends xs R)))
    (same_each c.ends-c.ensures.value c.ends-e.ensures.value c.start_ends-d.ensures c.start_ends-f.ensures
    (as_passed (λ w. c.spread_ends-r.result ≡ spread_ends c.args.greatest (tops w) c.ends-held.result) c.args.w c.requires.next c.spread_ends-r.ensures
    ∙ ap (spread_ends c.args.greatest (tops c.args.w)) c.ends-held.ensures.value))
