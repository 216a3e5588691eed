use Rattle.std.proofs.Common.{◌≡◌, ◌∙◌, ◌-◌, ap, sym, subst, set, w64, to_z, of_z}
use Rattle.std.proofs.lemmas.Int.{to_z-of_z}
use Rattle.ts_base.specs.Signature.{signature_of}
use Rattle.ts_witness.specs.Witnesses.{series_of}
use Rattle.ts_witness.proofs.Letters.{like_at}
use Rattle.ts_witness.proofs.witness.Witness.compares_as.Goals as goal

pub returns : goal.returns
returns c =
    let x = series_of c.args.self.now in
    let i = c.args.k - 1 in
    let u = to_z w64 (of_z w64 c.args.u) in
    let v = to_z w64 (of_z w64 c.args.v) in
    let u_is : u ≡ c.args.u = to_z-of_z w64 c.args.u c.ranges.u in
    let v_is : v ≡ c.args.v = to_z-of_z w64 c.args.v c.ranges.v in
    λ t. ap (λ z. signature_of (set x i z)) (sym u_is)
    ∙ subst (λ z. signature_of (set z i u) ≡ signature_of (set z i v)) c.as_slice-cells.ensures.value
    (like_at c.as_slice-cells.result.now i u v (c.are_like_after.ensures c.if-not-are_like_after.false) (c.are_like_before.ensures t))
    ∙ ap (λ z. signature_of (set x i z)) v_is
