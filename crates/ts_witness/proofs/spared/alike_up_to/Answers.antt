use Rattle.std.proofs.Common.{◌≡◌, ◌∙◌, ◌-◌, ◌≤ℤ◌, sym, subst, arith, w64, rules, ap, set}
use Rattle.std.proofs.lemmas.Int.{ints, to_z-of_z}
use Rattle.ts_base.specs.Signature.{signature_of}
use Rattle.ts_glue.specs.Machines.{forward_of}
use Rattle.ts_witness.specs.KnownValues.{MeetsWith}
use Rattle.ts_witness.specs.Witnesses.{series_of}
use Rattle.ts_witness.proofs.KnownValues.{like_meets}
use Rattle.ts_witness.proofs.spared.alike_up_to.Goals as goal

pub returns-then-not-letters-clause-alike : goal.returns-then-not-letters-clause-alike
returns-then-not-letters-clause-alike c = λ r w from to meets.
    let v_is = to_z-of_z w64 c.args.v c.ranges.v in
    let same : c.args.v ≡ w = omega (arith, ints, from, to, v_is) in
    subst (MeetsWith (forward_of c.args.m.now) r (series_of c.args.witness.now) (c.args.k - 1)) same meets

pub returns-clause-alike : goal.returns-clause-alike
returns-clause-alike c = λ r w from to meets.
    let y = series_of c.args.witness.now in let i = c.args.k - 1 in
    let v_is = to_z-of_z w64 c.args.v c.ranges.v in
    like_meets (forward_of c.args.m.now) r y i c.args.v w (c.requires.letters c.if-not-letters.false, meets)
    (ap (λ z. signature_of (set y i z)) (sym v_is) ∙ c.alike_up_to.ensures.alike w (subst (λ z. z ≤ℤ w) (sym v_is) from)
    (subst (λ z. w ≤ℤ z) (to_z-of_z w64 c.alike_up_to.result (search rules)) to))
