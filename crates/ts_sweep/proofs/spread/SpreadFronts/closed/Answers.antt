use Rattle.std.proofs.Common.{◌≡◌, sym, ◌∙◌}
use Rattle.ts_sweep.specs.Spreads.{spread_hull, top_of}
use Rattle.ts_sweep.proofs.RunSteps.{as_passed}
use Rattle.ts_sweep.proofs.SpreadWalks.{chosen}
use Rattle.ts_sweep.proofs.spread.SpreadFronts.closed.Goals as goal

pub returns : goal.returns
returns g c =
    let k = c.args.self in
    chosen _ _ _ _ (sym c.is_some.ensures ∙ c.if-not-is_some.false)
    (as_passed (λ w. c.spread_hull.result ≡ spread_hull g.H.Packed.lanes g.H.Packed.sides g.H.Packed.replaced k.greatest
    (top_of g.H.Packed.lanes g.H.Packed.sides g.H.Hull.none k.before.now k.letter k.twin (g.V.Values.len k.values) (g.V.Values.value k.values) w)
    c.args.run)
    c.args.next_value c.requires.small c.spread_hull.ensures)
