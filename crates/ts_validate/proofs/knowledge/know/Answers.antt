use Rattle.ts_validate.proofs.Knowing.{residual_known}
use Rattle.ts_validate.proofs.knowledge.know.Goals as goal

pub returns-clause-known : goal.returns-clause-known
returns-clause-known c =
    let a = c.in_ok-less.ensures in
    let b = c.in_ok-equal.ensures in
    let d = c.in_ok-greater.ensures in
    residual_known c.args.residuals.now c.next.new.self c.next-2.new.self c.next-3.new.self c.args.i c.form-form.result c.in_ok-less.less
    c.in_ok-equal.equal c.in_ok-greater.greater c.number.result c.words.result a.residuals b.residuals d.residuals a.next b.next d.next
    c.form-form.ensures.same c.number.ensures c.words.ensures
