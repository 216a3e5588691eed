use Rattle.std.proofs.Common.{refl, sym, subst}
use Rattle.ts_model.specs.declared.model.Op.{Op}
use Rattle.ts_sweep.specs.Sides.{UpperEnds, LowerEnds}
use Rattle.ts_filter.specs.declared.question.Question.TheVariants.{Compares}
use Rattle.ts_filter.specs.Alike.{IsServed}
use Rattle.ts_filter.proofs.SeenEnds.{kept_at_most, kept_below, serves_above, serves_at_least, serves_at_most, serves_below}
use Rattle.ts_filter.proofs.enough_form.form_to_compare.Goals as goal

pub returns-in-AtLeast-clause-served : goal.returns-in-AtLeast-clause-served
returns-in-AtLeast-clause-served c =
    let b = c.args.bound in let mark = c.args.mark in let n = c.args.n in
    subst (λ (o : Op). IsServed UpperEnds mark n (Compares o b)) (sym c.in-AtLeast.is)
    (serves_at_least b mark n (c.is_enough_up_to.ensures c.if-is_enough_up_to.true))

pub returns-in-Above-clause-served : goal.returns-in-Above-clause-served
returns-in-Above-clause-served c =
    let b = c.args.bound in let mark = c.args.mark in let n = c.args.n in
    subst (λ (o : Op). IsServed UpperEnds mark n (Compares o b)) (sym c.in-Above.is)
    (serves_above b mark n (c.is_enough_beyond.ensures c.if-is_enough_beyond.true))

pub returns-in-AtMost-clause-served : goal.returns-in-AtMost-clause-served
returns-in-AtMost-clause-served c =
    let b = c.args.bound in let mark = c.args.mark in let n = c.args.n in
    subst (λ (o : Op). IsServed LowerEnds mark n (Compares o b)) (sym c.in-AtMost.is)
    (serves_at_most b mark n (kept_at_most b mark n (c.if-is_enough_beyond-2.ensures refl)))

pub returns-in-Below-clause-served : goal.returns-in-Below-clause-served
returns-in-Below-clause-served c =
    let b = c.args.bound in let mark = c.args.mark in let n = c.args.n in
    subst (λ (o : Op). IsServed LowerEnds mark n (Compares o b)) (sym c.in-Below.is)
    (serves_below b mark n (kept_below b mark n (c.if-is_enough_up_to-2.ensures refl)))
