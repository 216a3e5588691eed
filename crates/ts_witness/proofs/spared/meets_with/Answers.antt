use Rattle.std.proofs.Common.{rules, SFits, ◌∙◌, ◌-◌, ap, sym, subst, set, w64}
use Rattle.std.specs.Prelude.{IfSome}
use Rattle.std.proofs.lemmas.Int.{to_z-of_z}
use Rattle.ts_base.specs.Signature.{signature_of}
use Rattle.ts_glue.specs.Machines.{forward_of}
use Rattle.ts_witness.specs.KnownValues.{IsLike}
use Rattle.ts_witness.specs.Witnesses.{series_of}
use Rattle.ts_witness.proofs.KnownValues.{like_meets}
use Rattle.ts_witness.proofs.spared.meets_with.Goals as goal

pub returns-in-Some-clause-told : goal.returns-in-Some-clause-told
returns-in-Some-clause-told c =
    let b = forward_of c.args.m.now in
    let r = c.args.r.now in
    let y = series_of c.args.witness.now in
    let i = c.args.k - 1 in
    let u = c.in-Some.u in
    let fits : SFits w64 u = search rules in
    let like = subst (λ o. IfSome o (IsLike b r y i)) c.in-Some.is c.requires.like in
    λ t. like_meets b r y i u c.args.v like
    (ap (λ z. signature_of (set y i z)) (sym (to_z-of_z w64 u fits)) ∙ c.compares_as.ensures c.if-compares_as.true
    ∙ ap (λ z. signature_of (set y i z)) (to_z-of_z w64 c.args.v c.ranges.v))
