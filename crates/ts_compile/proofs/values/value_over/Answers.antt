use Rattle.std.proofs.Common.{◌≡◌, ℤ, List, subst}
use Rattle.std.specs.Prelude.{IfOk}
use Rattle.ts_pattern.specs.TermValue.{term_value}
use Rattle.ts_compile.proofs.values.value_over.Goals as goal

pub value-requires : goal.value-requires
value-requires c = c.looked_at.ensures.series c.requires.series

pub returns : goal.returns
returns c =
    subst (λ (xs : List ℤ). IfOk c.value.result (λ v. v ≡ term_value c.args.t.now.term xs)) c.looked_at.ensures.cells c.value.ensures
