use Rattle.std.proofs.Common.{Some, sym, ◌∙◌, subst, ◌≡◌, [], append-nil, length, arith, List}
use Rattle.std.specs.Prelude.{slice_get}
use Rattle.ts_base.specs.declared.ext.Ext.{Ext}
use Rattle.ts_pattern.specs.TermValue.{term_value}
use Rattle.ts_model.specs.Meets.{values_on}
use Rattle.ts_run.proofs.ReadingSteps.{on_err_of}
use Rattle.ts_run.proofs.ReadingTexts.{few_values, line_written, number_written, put_twice, value_written}
use Rattle.ts_run.proofs.readings.push_line.Goals as goal

pub returns-in_err-push_count-clause-err : goal.returns-in_err-push_count-clause-err
returns-in_err-push_count-clause-err c =
    on_err_of c.from_residual.result ([], c.in_err-push_count.ensures.err ∙ sym (append-nil c.args.text.now.items))

pub loop-term-init : goal.loop-term-init
loop-term-init c = record {
  text = λ m xs stands terms.
      number_written (values_on m xs) c.args.text.now.items c.push_count.new.text.items c.count.result (length xs) c.in_ok-push_count.ensures.ok
      (c.count.ensures.count ∙ stands.count);
  front = (_, c.in_ok-push_count.ensures.ok);
}

pub overflow_cast-term : goal.overflow_cast-term
overflow_cast-term c =
    let few = c.requires.few in
    let within = c.loop-term-test.true in
    let all = c.terms-term-end.ensures in
    omega (arith, few, within, all)

pub loop-term-preserved : goal.loop-term-preserved
loop-term-preserved c =
    let at = c.loop-term.invariant in record {
      text = λ m xs stands terms.
          value_written (values_on m xs) c.loop-term.term c.value.result c.loop-term.text.items c.push_spaced.new.text.items _
          (subst (λ (vs : List Ext). slice_get vs c.loop-term.term ≡ Some c.value.result) (terms.values xs) (c.value.ensures xs stands))
          (at.text m xs stands terms) c.in_ok-push_spaced.ensures.ok;
      front = (_, put_twice c.args.text.now.items c.loop-term.text.items c.push_spaced.new.text.items at.front.0 _ at.front.1 c.in_ok-push_spaced.ensures.ok);
    }

pub returns-in_err-push_spaced-clause-err : goal.returns-in_err-push_spaced-clause-err
returns-in_err-push_spaced-clause-err c =
    let at = c.loop-term.invariant in
    let e = c.in_err-push_spaced.ensures.err in
    on_err_of c.from_residual-in_err-push_spaced.result
    (_, put_twice c.args.text.now.items c.loop-term.text.items c.push_spaced.new.text.items at.front.0 e.0 at.front.1 e.1)

pub returns-clause-ok : goal.returns-clause-ok
returns-clause-ok c = λ m xs stands terms.
    let at = c.loop-term.invariant in
    line_written (values_on m xs) c.loop-term.term c.args.text.now.items c.loop-term.text.items c.push.new.self.items _
    (few_values (λ t. term_value t xs) c.args.monitor.now.terms (values_on m xs) c.loop-term.term (terms.values xs)
    (omega (arith, c.loop-term-test.false, c.terms-term-end.ensures))) (at.text m xs stands terms) c.in_ok-push.ensures.items
