use Rattle.std.proofs.Common.{sym, subst}
use Rattle.ts_base.specs.declared.goal.Goal.{Goal}
use Rattle.ts_base.specs.declared.goal.Goal.TheVariants.{Maximise, Minimise}
use Rattle.ts_bound.specs.AnyRows.{form_sides}
use Rattle.ts_filter.specs.declared.bar.Bar.{Bar}
use Rattle.ts_filter.specs.declared.question.Question.TheVariants.{Counts}
use Rattle.ts_filter.specs.Alike.{IsServed}
use Rattle.ts_filter.proofs.SeenEnds.{serves_as_great, serves_as_little, serves_greater, serves_less}
use Rattle.ts_filter.proofs.enough_form.form_to_count.Goals as goal

pub returns-in-Maximise-Better-clause-served : goal.returns-in-Maximise-Better-clause-served
returns-in-Maximise-Better-clause-served c =
    let ends = form_sides c.form_to_compare.result in let mark = c.args.mark in let n = c.args.n in
    subst (λ (g : Goal). IsServed ends mark n (Counts g c.args.bar)) (sym c.in-Maximise-Better.is-0)
    (subst (λ (b : Bar). IsServed ends mark n (Counts Maximise b)) (sym c.in-Maximise-Better.is-1)
    (serves_greater ends mark n c.in-Maximise-Better.w c.form_to_compare.ensures.served))

pub returns-in-Maximise-AsGood-clause-served : goal.returns-in-Maximise-AsGood-clause-served
returns-in-Maximise-AsGood-clause-served c =
    let ends = form_sides c.form_to_compare-in-Maximise-AsGood.result in let mark = c.args.mark in let n = c.args.n in
    subst (λ (g : Goal). IsServed ends mark n (Counts g c.args.bar)) (sym c.in-Maximise-AsGood.is-0)
    (subst (λ (b : Bar). IsServed ends mark n (Counts Maximise b)) (sym c.in-Maximise-AsGood.is-1)
    (serves_as_great ends mark n c.in-Maximise-AsGood.w c.form_to_compare-in-Maximise-AsGood.ensures.served))

pub returns-in-Minimise-Better-clause-served : goal.returns-in-Minimise-Better-clause-served
returns-in-Minimise-Better-clause-served c =
    let ends = form_sides c.form_to_compare-in-Minimise-Better.result in let mark = c.args.mark in let n = c.args.n in
    subst (λ (g : Goal). IsServed ends mark n (Counts g c.args.bar)) (sym c.in-Minimise-Better.is-0)
    (subst (λ (b : Bar). IsServed ends mark n (Counts Minimise b)) (sym c.in-Minimise-Better.is-1)
    (serves_less ends mark n c.in-Minimise-Better.w c.form_to_compare-in-Minimise-Better.ensures.served))

pub returns-in-Minimise-AsGood-clause-served : goal.returns-in-Minimise-AsGood-clause-served
returns-in-Minimise-AsGood-clause-served c =
    let ends = form_sides c.form_to_compare-in-Minimise-AsGood.result in let mark = c.args.mark in let n = c.args.n in
    subst (λ (g : Goal). IsServed ends mark n (Counts g c.args.bar)) (sym c.in-Minimise-AsGood.is-0)
    (subst (λ (b : Bar). IsServed ends mark n (Counts Minimise b)) (sym c.in-Minimise-AsGood.is-1)
    (serves_as_little ends mark n c.in-Minimise-AsGood.w c.form_to_compare-in-Minimise-AsGood.ensures.served))
