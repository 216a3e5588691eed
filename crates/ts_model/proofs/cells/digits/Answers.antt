use Rattle.std.proofs.Common.{◌≡◌, ◌<◌, false, List, length, refl, subst, sym, arith}
use Rattle.std.specs.Prelude.{IfOk}
use Rattle.std.specs.List.{list_any}
use Rattle.ts_domain.specs.declared.interval.Interval.{Interval}
use Rattle.ts_model.specs.ModelParts.{is_backward, is_outside, union_of}
use Rattle.ts_model.proofs.cells.digits.Goals as goal

pub union_of-requires-clause-some : goal.union_of-requires-clause-some
union_of-requires-clause-some c = subst (λ (rs : List Interval). 0 < length rs) (sym c.in_ok-ranges.ensures) (omega arith)

pub union_of-requires-clause-forward : goal.union_of-requires-clause-forward
union_of-requires-clause-forward c = subst (λ (rs : List Interval). list_any is_backward rs ≡ false) (sym c.in_ok-ranges.ensures) refl

pub union_of-requires-clause-inside : goal.union_of-requires-clause-inside
union_of-requires-clause-inside c = subst (λ (rs : List Interval). list_any is_outside rs ≡ false) (sym c.in_ok-ranges.ensures) refl

pub returns : goal.returns
returns c = subst (λ (rs : List Interval). IfOk c.union_of.result (λ d. d ≡ union_of rs)) c.in_ok-ranges.ensures c.union_of.ensures
