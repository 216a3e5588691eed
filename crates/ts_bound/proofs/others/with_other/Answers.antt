use Rattle.std.proofs.Common.{◌≡◌, ◌-◌, refl, subst, arith}
use Rattle.std.specs.Prelude.{IfSome}
use Rattle.ts_bound.specs.Others.{IsCovered}
use Rattle.ts_bound.proofs.OthersLaws.{first_inside, one_inside}
use Rattle.ts_bound.proofs.others.with_other.Goals as goal

pub widened-requires : goal.widened-requires
widened-requires c =
    let n = subst (λ o. IfSome o (λ w. w.count ≡ c.args.to - c.args.from)) c.in-Some.is c.requires in
    omega (arith, n, c.if-other-from.false, c.if-other-to.false)

pub returns-in-None : goal.returns-in-None
returns-in-None c = λ others h.
    first_inside c.args.from c.args.to others c.args.other _ (omega (arith, c.if-other-from.false))
    (subst (IsCovered c.args.from c.args.to others) c.in-None.is h) refl refl refl refl refl

pub returns-in-Some : goal.returns-in-Some
returns-in-Some c = λ others h.
    one_inside c.args.from c.args.to others c.args.other c.in-Some.c c.widened.result (c.args.other.at - c.args.from) c.args.other.gone
    (omega (arith, c.if-other-from.false)) refl refl c.widened.ensures
    (subst (IsCovered c.args.from c.args.to others) c.in-Some.is h)
