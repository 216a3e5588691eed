use Rattle.ts_bound.specs.AnyRows.{form_sides}
use Rattle.ts_filter.proofs.AlikeLaws.{serve_each, serve_first, serve_more}
use Rattle.ts_filter.proofs.enough_form.form_to_meet.Goals as goal

pub loop-k-init : goal.loop-k-init
loop-k-init c =
    let own = c.args.own in
    serve_first own.all.now own.term (form_sides c.form_to_compare-form.result) c.args.mark c.args.n own.first _ own.is_first
    c.form_to_compare-form.ensures.served

pub loop-k-preserved : goal.loop-k-preserved
loop-k-preserved c =
    let own = c.args.own in
    serve_more own.all.now own.term (form_sides c.form_to_compare-form.result) c.args.mark c.args.n c.loop-k.k _ c.loop-k.invariant
    (c.is_enough.ensures c.if-not-is_enough.false)

pub returns-clause-served : goal.returns-clause-served
returns-clause-served c =
    let own = c.args.own in
    serve_each own (form_sides c.form_to_compare-form.result) c.args.mark c.args.n c.loop-k.k c.loop-k.invariant c.loop-k-test.false
