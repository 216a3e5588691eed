use Rattle.std.proofs.Common.{◌≡◌, sym, ◌∙◌, ap, subst, length, Some, arith}
use Rattle.std.proofs.lemmas.List.{length-map}
use Rattle.ts_base.specs.Windows.{LooksInside}
use Rattle.ts_model.specs.TermValue.{stated_value}
use Rattle.ts_model.specs.Views.{model_parts, terms_in}
use Rattle.ts_model.proofs.TermWindows.{terms_count}
use Rattle.ts_model.specs.Meets.{values_on}
use Rattle.ts_compile.proofs.JudgeLaws.{taken}
use Rattle.ts_compile.proofs.Terms.{all_taken, looks_there, value_found}
use Rattle.ts_compile.proofs.judging.values_on.Goals as goal

pub value_by-requires-clause-inside : goal.value_by-requires-clause-inside
value_by-requires-clause-inside c =
    let m = c.args.model.now in
    subst (λ n. LooksInside n c.term.result.window) (sym c.requires.cells)
    (looks_there (length m.cells.items) (terms_in m) c.loop-k.k c.term.result c.term.ensures c.requires.whole.windows)

pub loop-k-preserved : goal.loop-k-preserved
loop-k-preserved c =
    let entries = terms_in c.args.model.now in
    let found = value_found c.args.series.now entries c.loop-k.k c.term.result c.term.ensures ∙ ap Some (sym c.in_ok-value_by.ensures) in
    taken (values_on (model_parts c.args.model.now) c.args.series.now) c.loop-k.values.items c.push.new.self.items c.loop-k.k c.in_ok-value_by.field-0 found
    c.loop-k.invariant c.in_ok-push.ensures.items

-- after the last term all are there
pub returns : goal.returns
returns c =
    let m = c.args.model.now in
    let many = terms_count m.terms.entries m.windows.items in
    let values = length-map (model_parts m).terms (λ t. stated_value t.1 c.args.series.now) in
    let over = c.loop-k-test.false in
    let count : c.len-k-end.result ≡ length m.terms.entries = c.len-k-end.ensures.len in
    all_taken (values_on (model_parts m) c.args.series.now) c.loop-k.values.items c.loop-k.k (omega (arith, many, values, over, count))
    c.loop-k.invariant
