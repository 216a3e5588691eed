use Rattle.std.proofs.Common.{◌≤ℤ◌, ◌∙◌, length, ap, inl, inr, rules, subst, sym, arith, w64}
use Rattle.std.proofs.lemmas.Int.{ints, to_z-of_z}
use Rattle.ts_base.specs.Limits.{greatest_value}
use Rattle.ts_filter.proofs.courses.is_asked.Goals as goal

pub returns-then-is_single : goal.returns-then-is_single
returns-then-is_single c = λ e. inr (ap length (sym c.cell.ensures) ∙ c.is_single.ensures.0 c.if-is_single.true)

pub returns-then-limit-ge-CELL_VALUE : goal.returns-then-limit-ge-CELL_VALUE
returns-then-limit-ge-CELL_VALUE c = λ e.
    let all = c.if-limit-ge-CELL_VALUE.true in
    inl (subst (λ z. greatest_value ≤ℤ z) (to_z-of_z w64 c.spared_to-limit.result (search rules) ∙ c.spared_to-limit.ensures) (omega (arith, ints, all)))
