use Rattle.std.proofs.Common.{◌≡◌, get_or, nat_eq, not, w64, ap, ◌∙◌}
use Rattle.std.proofs.lemmas.Int.{to_z-of_z}
use denote.Param.{number, value_of}
use Rattle.ts_sweep.specs.declared.packed.Name.TheVariants.{R}
use Rattle.ts_sweep.specs.Lanes.{some_lanes}
use Rattle.ts_sweep.specs.Packed.{name_ends}
use Rattle.ts_sweep.specs.Sides.{as_read}
use Rattle.ts_sweep.specs.Spreads.{lesser}
use Rattle.ts_sweep.proofs.PairSteps.{as_both_passed}
use Rattle.ts_sweep.proofs.spread.given_at.Goals as goal

pub returns : goal.returns
returns g c =
    let lanes = g.H.Packed.lanes in
    let s = g.H.Packed.sides in
    let above = (not (nat_eq (value_of (number g.row.ABOVE)) 0)) in
    to_z-of_z w64 c.lesser.result (record { sfits = c.lesser.type_inv })
    ∙ as_both_passed (λ v w. c.lesser.result ≡ lesser above c.args.bounded (some_lanes (lanes c.hull_of-h.result))
    (name_ends (as_read s (lanes c.hull_of-h.result)) R) v w) c.at-v.result c.args.w c.at-v.ensures.small c.requires.next c.lesser.ensures
    ∙ ap (λ h. lesser above c.args.bounded (some_lanes (lanes h)) (name_ends (as_read s (lanes h)) R) c.at-v.result c.args.w) c.hull_of-h.ensures
    ∙ ap (λ v. lesser above c.args.bounded (some_lanes (lanes (get_or c.args.before.now c.args.i g.H.Hull.none)))
    (name_ends (as_read s (lanes (get_or c.args.before.now c.args.i g.H.Hull.none))) R) v c.args.w) c.at-v.ensures.value
