use mir.Val.{SFits}
use Rattle.std.proofs.Common.{neg_ℤ, refl, sym, ap, ◌∙◌, subst, w64, rules}
use Rattle.std.proofs.lemmas.Int.{to_z-of_z}
use Rattle.ts_base.specs.declared.ext.Ext.TheVariants.{Int}
use Rattle.ts_base.specs.declared.op.Op.TheVariants.{Add}
use Rattle.ts_automaton.specs.declared.expr.Operator.TheVariants.{Fold}
use Rattle.ts_meet.specs.Sides.{TakesNear, plain_values}
use Rattle.ts_meet.proofs.folding.PlusFoldingNear.once.Goals as goal

pub joined-requires : goal.joined-requires
joined-requires c =
    let fits : SFits w64 c.args.worth = search rules in let back : SFits w64 c.opposite.result = search rules in
    let is =
    c.number.ensures ∙ ap (λ x. plain_values.constant (Int x)) (to_z-of_z w64 c.opposite.result back ∙ c.opposite.ensures.value)
    ∙ ap (λ x. plain_values.constant (Int (neg_ℤ x))) (to_z-of_z w64 c.args.worth fits) in
    subst (TakesNear (Fold Add) c.args.both) (sym is) (c.requires.takes refl)
