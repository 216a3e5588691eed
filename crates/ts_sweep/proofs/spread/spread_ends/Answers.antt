use mir.Val.{SFits}
use Rattle.std.proofs.Common.{◌≡◌, Bool, true, false, ℤ, rules, w64, to_z, of_z, sym, ap, ◌∙◌}
use Rattle.std.specs.Int.{int_max, int_min}
use Rattle.std.proofs.lemmas.Int.{to_z-of_z}
use Rattle.ts_sweep.specs.PackedLaws.{same_ends}
use Rattle.ts_sweep.specs.Spreads.{spread_ends, top_of}
use Rattle.ts_sweep.proofs.RunSteps.{as_passed}
use Rattle.ts_sweep.proofs.spread.spread_ends.Goals as goal

pub returns-then-greatest : goal.returns-then-greatest
returns-then-greatest g c =
    let tops : ℤ → Bool → Bool → ℤ = top_of g.H.Packed.lanes g.H.Packed.sides g.H.Hull.none c.args.before.now c.args.letter c.args.twin
    (g.V.Values.len c.args.values) (g.V.Values.value c.args.values) in
    let low : SFits w64 c.args.r.below = search rules in
    let high : SFits w64 c.args.r.above = search rules in
    same_ends _ _ _ _
    (to_z-of_z w64 c.top_of.result (record { sfits = c.top_of.type_inv })
    ∙ as_passed (λ w. c.top_of.result ≡ int_min (tops w false true) (to_z w64 (of_z w64 c.args.r.below))) c.args.w c.requires.next c.top_of.ensures
    ∙ ap (int_min (tops c.args.w false true)) (to_z-of_z w64 c.args.r.below low))
    (to_z-of_z w64 c.each_end.result (record { sfits = c.each_end.type_inv })
    ∙ as_passed (λ w. c.each_end.result ≡ int_max (to_z w64 (of_z w64 c.args.r.above)) (tops w true false)) c.args.w c.requires.next c.each_end.ensures
    ∙ ap (λ z. int_max z (tops c.args.w true false)) (to_z-of_z w64 c.args.r.above high))
    ∙ ap (λ b. spread_ends b (tops c.args.w) c.args.r) (sym c.if-greatest.true)

pub returns-else-greatest : goal.returns-else-greatest
returns-else-greatest g c =
    let tops : ℤ → Bool → Bool → ℤ = top_of g.H.Packed.lanes g.H.Packed.sides g.H.Hull.none c.args.before.now c.args.letter c.args.twin
    (g.V.Values.len c.args.values) (g.V.Values.value c.args.values) in
    let low : SFits w64 c.args.r.below = search rules in
    let high : SFits w64 c.args.r.above = search rules in
    let each = c.each_end-else-greatest in
    let best = c.top_of-else-greatest in
    same_ends _ _ _ _
    (to_z-of_z w64 each.result (record { sfits = each.type_inv })
    ∙ as_passed (λ w. each.result ≡ int_max (to_z w64 (of_z w64 c.args.r.below)) (tops w false false)) c.args.w c.requires.next each.ensures
    ∙ ap (λ z. int_max z (tops c.args.w false false)) (to_z-of_z w64 c.args.r.below low))
    (to_z-of_z w64 best.result (record { sfits = best.type_inv })
    ∙ as_passed (λ w. best.result ≡ int_min (tops w true true) (to_z w64 (of_z w64 c.args.r.above))) c.args.w c.requires.next best.ensures
    ∙ ap (int_min (tops c.args.w true true)) (to_z-of_z w64 c.args.r.above high))
    ∙ ap (λ b. spread_ends b (tops c.args.w) c.args.r) (sym c.if-greatest.false)
