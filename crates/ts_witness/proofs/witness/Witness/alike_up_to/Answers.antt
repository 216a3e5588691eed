use Rattle.std.proofs.Common.{◌≡◌, ◌∙◌, ◌-◌, ◌≤ℤ◌, ap, sym, subst, set, arith, w64, to_z, of_z}
use Rattle.std.proofs.lemmas.Int.{ints, to_z-of_z}
use Rattle.ts_base.specs.Signature.{signature_of}
use Rattle.ts_witness.specs.Witnesses.{series_of}
use Rattle.ts_witness.proofs.Letters.{like_at}
use Rattle.ts_witness.proofs.witness.Witness.alike_up_to.Goals as goal

pub returns-clause-alike : goal.returns-clause-alike
returns-clause-alike c = λ w from to.
    let i = c.args.k - 1 in
    let v_is = to_z-of_z w64 c.args.v c.ranges.v in
    let v = to_z w64 (of_z w64 c.args.v) in
    let low = subst (λ z. z ≤ℤ w) (sym v_is) from in
    let least = c.min.ensures in
    ap (λ z. signature_of (set (series_of c.args.self.now) i z)) (sym v_is)
    ∙ subst (λ z. signature_of (set z i v) ≡ signature_of (set z i w)) c.as_slice-cells.ensures.value
    (like_at c.as_slice-cells.result.now i v w (c.alike_after.ensures.alike w low (omega (arith, ints, least, to)))
    (c.alike_before.ensures.alike w low (omega (arith, ints, least, to))))
