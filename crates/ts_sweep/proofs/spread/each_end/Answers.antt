use Rattle.std.proofs.Common.{◌≡◌, ℤ, get_or, nat_eq, not, false, pos, w64, to_z, of_z, ap, ◌∙◌}
use Rattle.std.specs.Int.{int_max, int_min}
use Rattle.std.proofs.lemmas.Int.{to_z-of_z}
use denote.Param.{number, value_of}
use Rattle.ts_sweep.specs.declared.packed.Name.TheVariants.{R}
use Rattle.ts_sweep.specs.Lanes.{some_lanes}
use Rattle.ts_sweep.specs.Packed.{name_ends}
use Rattle.ts_sweep.specs.Sides.{as_read}
use Rattle.ts_sweep.specs.Spreads.{top}
use Rattle.ts_sweep.proofs.RunSteps.{as_passed}
use Rattle.ts_sweep.proofs.SpreadWalks.{top_most}
use Rattle.ts_sweep.proofs.spread.each_end.Goals as goal

pub returns : goal.returns
returns g c =
    let lanes = g.H.Packed.lanes in
    let s = g.H.Packed.sides in
    let tops : ℤ → ℤ = λ w. top (not (nat_eq (value_of (number g.row.ABOVE)) 0)) false c.args.letter c.args.twin (g.V.Values.len c.args.values)
    (λ i. some_lanes (lanes (get_or c.args.before.now i g.H.Hull.none)))
    (λ i. name_ends (as_read s (lanes (get_or c.args.before.now i g.H.Hull.none))) R) (g.V.Values.value c.args.values) w in
    to_z-of_z w64 c.max.result (record { sfits = c.max.type_inv }) ∙ c.max.ensures.value
    ∙ ap (λ z. int_max z (to_z w64 (of_z w64 c.top_of.result))) (to_z-of_z w64 c.args.end c.ranges.end)
    ∙ ap (int_max c.args.end) (to_z-of_z w64 c.top_of.result (record { sfits = c.top_of.type_inv })
    ∙ as_passed (λ w. c.top_of.result ≡ int_min (tops w) (pos 9223372036854775807)) c.args.w c.requires.next c.top_of.ensures
    ∙ top_most (not (nat_eq (value_of (number g.row.ABOVE)) 0)) c.args.letter c.args.twin (g.V.Values.len c.args.values)
    (λ i. some_lanes (lanes (get_or c.args.before.now i g.H.Hull.none)))
    (λ i. name_ends (as_read s (lanes (get_or c.args.before.now i g.H.Hull.none))) R) (g.V.Values.value c.args.values) c.args.w
    (λ i lt. g.met.V.Values.is_small c.args.values c.requires.ok i lt) c.requires.next)
