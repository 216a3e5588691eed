use Rattle.std.proofs.Common.{◌≡◌, Option, subst, sym}
use Rattle.std.specs.Prelude.{IfOk}
use Rattle.ts_base.specs.Windows.{looked_at}
use Rattle.ts_base.specs.declared.range.Range.{Range}
use Rattle.ts_pattern.specs.TermValue.{term_value}
use Rattle.ts_compile.proofs.values.value_by.Goals as goal

pub returns-in-None : goal.returns-in-None
returns-in-None c =
    subst (λ (w : Option Range). IfOk c.value_with.result (λ v. v ≡ term_value c.args.t.now.term (looked_at w c.args.series.now))) (sym c.in-None.is)
    c.value_with.ensures
