use Rattle.std.proofs.Common.{◌≡◌, rules, sym, ◌∙◌}
use Rattle.std.proofs.lemmas.Bool.{both_ways}
use Rattle.ts_domain.proofs.MarkedSets.{interval_decides, told_same, same_numbers}
use Rattle.ts_domain.proofs.domain.Domain.has_same_parts.Goals.{then-eq, else-eq}
use Rattle.ts_domain.proofs.domain.Domain.has_same_parts.Goals as goal

pub returns-then-is_same : goal.returns-then-is_same
returns-then-is_same c = λ t.
    let ranges = told_same c.eq-then-is_same.result c.self.inside.ranges.value.items.items c.other.inside.ranges.value.items.items (search rules) t in
    let both : (c.self.inside.piece ≡ c.other.inside.piece) × (c.self.inside.marks ≡ c.other.inside.marks) = elim c.if-eq.branch [
      | then-eq w ↦ (
        (interval_decides c.self.inside.piece c.other.inside.piece).0 (sym c.eq.ensures ∙ w.if-eq.true),
        w.is_same.ensures (sym w.value-is ∙ c.if-is_same.true),
      )
      | else-eq w ↦ absurd (both_ways c.if-eq.value (w.value-is ∙ w.if-eq.false) c.if-is_same.true)
    ] in
    same_numbers c.self.inside.ranges.value.items.items c.other.inside.ranges.value.items.items c.self.inside.piece c.other.inside.piece c.self.inside.marks
    c.other.inside.marks _ _ c.self.view_is c.other.view_is ranges both.0 both.1
