use Rattle.std.proofs.Common.{◌≡◌, ◌-ℤ◌, ap, ◌∙◌, arith, rules, to_z, of_z, w64}
use Rattle.std.proofs.lemmas.Int.{ints, to_z-of_z}
use mir.Val.{SFits}
use Rattle.ts_occurrence.proofs.Features.{feature_is}
use Rattle.ts_occurrence.proofs.term_value.feature.Goals as goal

pub returns-clause-exact : goal.returns-clause-exact
returns-clause-exact c =
    let whole = c.joined-whole.result in
    let less = c.taken_away-less.result in
    let whole_is : to_z w64 (of_z w64 whole) ≡ whole = to_z-of_z w64 whole (search rules) in
    let less_is : to_z w64 (of_z w64 less) ≡ less = to_z-of_z w64 less (search rules) in
    let a = c.joined-whole.ensures.within.0 in
    let b = c.joined-whole.ensures.within.1 in
    let d = c.taken_away-less.ensures.within.0 in
    let e = c.taken_away-less.ensures.within.1 in
    let fits : SFits w64 (whole -ℤ less) = omega (arith, ints, a, b, d, e) in
    ap (λ z. to_z w64 (of_z w64 (z -ℤ to_z w64 (of_z w64 less)))) whole_is
    ∙ ap (λ z. to_z w64 (of_z w64 (whole -ℤ z))) less_is
    ∙ to_z-of_z w64 (whole -ℤ less) fits
    ∙ feature_is c.args.f c.fold.result c.less.result c.args.cells.now whole less c.fold.ensures c.less.ensures c.requires.some
    c.joined-whole.ensures.exact c.taken_away-less.ensures.exact
