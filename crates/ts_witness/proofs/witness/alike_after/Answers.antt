use Rattle.std.proofs.Common.{rules, SFits, ◌≡◌, ◌≤ℤ◌, ◌<◌, ◌-◌, ◌∙◌, pos, get_or, length, inr, sym, subst, w64, to_z, of_z, arith}
use Rattle.std.proofs.lemmas.Int.{to_z-of_z}
use Rattle.std.proofs.lemmas.Option.{same_Some, slice_get-get_or}
use Rattle.ts_base.specs.Signature.{letter_of}
use Rattle.ts_witness.proofs.witness.alike_after.Goals as goal

pub returns-clause-alike : goal.returns-clause-alike
returns-clause-alike c = λ w low high. inr (λ x there.
    let cells = c.args.cells.now in let j = c.args.i - 1 in
    let place = c.requires.place in
    let below : j < length cells = omega (arith, place) in
    let fits : SFits w64 (get_or cells (c.args.i - 1) (pos 0)) = search rules in
    let beside = to_z w64 (of_z w64 (get_or cells j (pos 0))) in
    let x_is : beside ≡ x = to_z-of_z w64 (get_or cells j (pos 0)) fits ∙ same_Some (get_or cells j (pos 0)) x
    (sym (slice_get-get_or cells j (pos 0) below) ∙ there) in
    let v_is = to_z-of_z w64 c.args.v c.ranges.v in
    let told = c.alike_to.ensures.after w (subst (λ z. z ≤ℤ w) (sym v_is) low)
    (subst (λ z. w ≤ℤ z) (to_z-of_z w64 c.alike_to.result (search rules)) high) in
    subst (λ z. letter_of z c.args.v ≡ letter_of z w) x_is (subst (λ u. letter_of beside u ≡ letter_of beside w) v_is told))
