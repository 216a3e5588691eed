use Rattle.std.proofs.Common.{length, subst, sym}
use Rattle.ts_base.specs.Windows.{LooksInside}
use Rattle.ts_model.specs.TermValue.{stated_value}
use Rattle.ts_model.specs.Views.{model_parts, stated_of, terms_in}
use Rattle.ts_model.specs.Meets.{value_at}
use Rattle.ts_compile.proofs.Terms.{looks_there, value_found, value_answered}
use Rattle.ts_compile.proofs.values.value_of.Goals as goal

pub value_over-requires-clause-inside : goal.value_over-requires-clause-inside
value_over-requires-clause-inside c =
    let m = c.args.m.now in
    subst (λ n. LooksInside n c.term.result.window) (sym c.requires.cells)
    (looks_there (length m.cells.items) (terms_in m) c.args.term c.term.result c.term.ensures c.requires.whole.windows)

pub returns : goal.returns
returns c =
    value_answered c.value_over.result (value_at (model_parts c.args.m.now) c.args.series.now c.args.term)
    (stated_value (stated_of c.term.result) c.args.series.now)
    (value_found c.args.series.now (terms_in c.args.m.now) c.args.term c.term.result c.term.ensures) c.value_over.ensures
