use Rattle.std.proofs.Common.{sym, ap, ◌∙◌, length}
use Rattle.ts_domain.proofs.Stretches.{one_range, single_range}
use Rattle.ts_domain.proofs.domain.Domain.as_range.Goals as goal
use Rattle.ts_domain.proofs.domain.Domain.as_range.Goals.{then-len-eq1, else-len-eq1}

pub returns-then-is_single : goal.returns-then-is_single
returns-then-is_single c = elim c.if-len-eq1.branch [
  | then-len-eq1 w ↦
      one_range c.self.inside.ranges.value.items.items c.self.inside.piece c.self.inside.marks _ c.self.view_is c.self.invariant
      (c.is_empty.ensures.yes c.if-is_empty.true)
      (ap (λ r. length r.items.items) (sym c.deref.ensures) ∙ sym c.len.ensures.value ∙ w.if-len-eq1.true)
  | else-len-eq1 w ↦
      single_range c.self.inside.ranges.value.items.items c.self.inside.piece c.self.inside.marks _ c.self.view_is c.self.invariant
      (c.is_empty.ensures.yes c.if-is_empty.true) (w.is_single.ensures.0 (sym w.value-is ∙ c.if-is_single.true))
]
