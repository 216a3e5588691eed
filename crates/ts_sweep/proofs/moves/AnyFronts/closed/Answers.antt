use Rattle.std.proofs.Common.{◌≡◌, sym, ◌∙◌, true}
use Rattle.ts_sweep.specs.Lanes.{some_lanes}
use Rattle.ts_sweep.specs.MoveLaws.{not_nothing}
use Rattle.ts_sweep.specs.Moves.{closed_by, replaced_all}
use Rattle.ts_sweep.specs.Sides.{as_read}
use Rattle.ts_sweep.proofs.Replaced.{closed_chosen}
use Rattle.ts_sweep.proofs.RunSteps.{as_passed}
use Rattle.ts_sweep.proofs.moves.AnyFronts.closed.Goals as goal

pub all_closed-requires-clause-registers : goal.all_closed-requires-clause-registers
all_closed-requires-clause-registers g c =
    let some : some_lanes (g.H.Packed.lanes c.args.run) ≡ true = sym c.is_some.ensures ∙ c.if-not-is_some.false in
    (not_nothing g.H.Packed.count _ some c.requires.closable).0

pub all_closed-requires-clause-closable : goal.all_closed-requires-clause-closable
all_closed-requires-clause-closable g c =
    let some : some_lanes (g.H.Packed.lanes c.args.run) ≡ true = sym c.is_some.ensures ∙ c.if-not-is_some.false in
    (not_nothing g.H.Packed.count _ some c.requires.closable).2

pub returns : goal.returns
returns g c =
    let run = c.args.run in
    closed_chosen _ _ _ _ _ _ (sym c.any_tail.ensures ∙ c.if-not-any_tail.false) (sym c.is_some.ensures ∙ c.if-not-is_some.false)
    (as_passed (λ z. c.all_closed.result ≡ replaced_all g.H.Packed.replaced run
    (closed_by g.H.Packed.count (λ m e. g.P.EachPart.closings c.args.self m e z) (as_read g.H.Packed.sides (g.H.Packed.lanes run))))
    c.args.next_value c.requires.small c.all_closed.ensures)
