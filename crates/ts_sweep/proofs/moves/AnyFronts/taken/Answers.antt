use Rattle.std.proofs.Common.{◌≡◌, sym, ◌∙◌, true}
use Rattle.ts_sweep.specs.Lanes.{some_lanes}
use Rattle.ts_sweep.specs.MoveLaws.{not_nothing}
use Rattle.ts_sweep.proofs.Fits.{packed_if_fit}
use Rattle.ts_sweep.proofs.moves.AnyFronts.taken.Goals as goal

pub holds_some-requires : goal.holds_some-requires
holds_some-requires g c = record { packed = packed_if_fit _ _ c.requires.fit.0 }

pub all_begun-requires-clause-registers : goal.all_begun-requires-clause-registers
all_begun-requires-clause-registers g c =
    let some : some_lanes (g.H.Packed.lanes c.args.h) ≡ true = sym c.holds_some.ensures ∙ c.if-not-holds_some.false in
    (not_nothing g.H.Packed.count _ some c.requires.fit.0).0

pub all_begun-requires-clause-fit : goal.all_begun-requires-clause-fit
all_begun-requires-clause-fit g c =
    let some : some_lanes (g.H.Packed.lanes c.args.h) ≡ true = sym c.holds_some.ensures ∙ c.if-not-holds_some.false in
    (not_nothing g.H.Packed.count _ some c.requires.fit.0).2
